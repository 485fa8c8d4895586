use Rattle.std.proofs.Common.{subst}
use Rattle.pnp_model.specs.Records.{Settings}
use Rattle.live_run.specs.Runs.{HasFollowed, HasSettled, scene}
use Rattle.live_run.specs.Talks.{told}
use Rattle.live_run.specs.Views.{lives_of, trail_of}
use Rattle.live_run.specs.declared.stop.DriveError.{DriveError}
use Rattle.live_run.specs.declared.stop.Stop.{Stop}
use Rattle.live_run.proofs.Leading.{passed_on}
use Rattle.live_run.proofs.Settling.{event_part, event_said, event_settled, event_unsaid}
use Rattle.live_run.proofs.driving.happen.Goals as goal

pub returns-then-not-has_few_ids-clause-followed : goal.returns-then-not-has_few_ids-clause-followed
returns-then-not-has_few_ids-clause-followed g c =
    let past = g.P.Peer.past c.args.peer.now in
    let taken = g.P.Peer.taken c.args.peer.now in
    let answers = g.P.Peer.answers c.args.peer.now in
    let state = g.M.Machine.state c.args.machine.now in
    let trail = trail_of c.args.trail.now in
    event_unsaid DriveError.TooLarge (lives_of c.args.live.now) (g.M.Machine.settings c.args.machine.now) state trail (scene state trail (told c.args.talk.now past taken answers)) c.args.event
    c.args.talk.now.asks c.args.talk.now.said.items past taken answers

pub returns-in_err-label-clause-followed : goal.returns-in_err-label-clause-followed
returns-in_err-label-clause-followed g c =
    let past = g.P.Peer.past c.args.peer.now in
    let taken = g.P.Peer.taken c.args.peer.now in
    let answers = g.P.Peer.answers c.args.peer.now in
    let state = g.M.Machine.state c.args.machine.now in
    let trail = trail_of c.args.trail.now in
    let t = told c.args.talk.now past taken answers in
    let lives = lives_of c.args.live.now in
    let settings = g.M.Machine.settings c.args.machine.now in
    let new = scene (g.M.Machine.state c.apply.new.self) trail t in
    passed_on (λ r. HasFollowed r lives settings (scene state trail t) c.args.event new past taken) c.from_residual.result (Stop.Fault DriveError.WantOfMemory) c.from_residual.ensures
    (event_unsaid DriveError.WantOfMemory lives settings state trail new c.args.event c.args.talk.now.asks c.args.talk.now.said.items past taken answers)

pub returns-in_err-add_label-clause-followed : goal.returns-in_err-add_label-clause-followed
returns-in_err-add_label-clause-followed g c =
    let t = told c.args.talk.now (g.P.Peer.past c.args.peer.now) (g.P.Peer.taken c.args.peer.now) (g.P.Peer.answers c.args.peer.now) in
    let past' = g.P.Peer.past c.add_label.new.peer in
    let taken' = g.P.Peer.taken c.add_label.new.peer in
    let trail = trail_of c.args.trail.now in
    let lives = lives_of c.args.live.now in
    let settings = g.M.Machine.settings c.args.machine.now in
    let old = scene (g.M.Machine.state c.args.machine.now) trail t in
    let state = g.M.Machine.state c.apply.new.self in
    let new = scene state trail (told c.add_label.new.self past' taken' (g.P.Peer.answers c.add_label.new.peer)) in
    passed_on (λ r. HasFollowed r lives settings old c.args.event new past' taken') c.from_residual-in_err-add_label.result (Stop.Fault c.in_err-add_label.field-0.0) c.from_residual-in_err-add_label.ensures
    (event_part c.in_err-add_label.field-0.0 lives settings old new c.args.event c.in_ok-label.label state past' taken' c.in_ok-label.ensures.happened c.in_err-add_label.ensures.front)

pub returns-in_err-follow-clause-followed : goal.returns-in_err-follow-clause-followed
returns-in_err-follow-clause-followed g c =
    let t = told c.args.talk.now (g.P.Peer.past c.args.peer.now) (g.P.Peer.taken c.args.peer.now) (g.P.Peer.answers c.args.peer.now) in
    let past' = g.P.Peer.past c.add_label.new.peer in
    let taken' = g.P.Peer.taken c.add_label.new.peer in
    let answers' = g.P.Peer.answers c.add_label.new.peer in
    let lives = lives_of c.args.live.now in
    let settings = g.M.Machine.settings c.args.machine.now in
    let old = scene (g.M.Machine.state c.args.machine.now) (trail_of c.args.trail.now) t in
    let state = g.M.Machine.state c.apply.new.self in
    let new = scene state (trail_of c.follow.new.self) (told c.add_label.new.self past' taken' answers') in
    passed_on (λ r. HasFollowed r lives settings old c.args.event new past' taken') c.from_residual-in_err-follow.result (Stop.Fault DriveError.WantOfMemory) c.from_residual-in_err-follow.ensures
    (event_said DriveError.WantOfMemory lives settings old new c.args.event c.in_ok-label.label state c.add_label.new.self.asks c.add_label.new.self.said.items past' taken' answers'
    c.in_ok-label.ensures.happened c.in_ok-add_label.ensures.said)

pub returns-clause-followed : goal.returns-clause-followed
returns-clause-followed g c =
    let t = told c.args.talk.now (g.P.Peer.past c.args.peer.now) (g.P.Peer.taken c.args.peer.now) (g.P.Peer.answers c.args.peer.now) in
    let t2 = told c.add_label.new.self (g.P.Peer.past c.add_label.new.peer) (g.P.Peer.taken c.add_label.new.peer) (g.P.Peer.answers c.add_label.new.peer) in
    let past' = g.P.Peer.past c.settle.new.peer in
    let taken' = g.P.Peer.taken c.settle.new.peer in
    let lives = lives_of c.args.live.now in
    let settings = g.M.Machine.settings c.args.machine.now in
    let old = scene (g.M.Machine.state c.args.machine.now) (trail_of c.args.trail.now) t in
    let state = g.M.Machine.state c.apply.new.self in
    let trail = trail_of c.follow.new.self in
    let new = scene (g.M.Machine.state c.settle.new.machine) (trail_of c.settle.new.trail) (told c.settle.new.talk past' taken' (g.P.Peer.answers c.settle.new.peer)) in
    event_settled c.settle.result lives settings old new c.args.event c.in_ok-label.label state trail t2 past' taken'
    c.in_ok-label.ensures.happened c.in_ok-follow.ensures c.in_ok-add_label.ensures.said
    (subst (λ (s : Settings). HasSettled c.settle.result lives s (scene state trail t2) new past' taken') c.in_ok-label.ensures.same c.settle.ensures.settled)
