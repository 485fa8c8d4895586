use Rattle.std.proofs.Common.{Option, subst}
use Rattle.std.specs.Prelude.{Ok}
use Rattle.pnp_labels.specs.declared.label.Label.{Label}
use Rattle.live_model.specs.Fronts.{IsFront}
use Rattle.live_model.specs.Outputs.{Told}
use Rattle.live_run.specs.Runs.{HasStepped, NextIs, scene}
use Rattle.live_run.specs.Talks.{told}
use Rattle.live_run.specs.Views.{lives_of, trail_of}
use Rattle.live_run.specs.declared.stop.DriveError.{DriveError}
use Rattle.live_run.specs.declared.stop.Stop.{Stop}
use Rattle.live_run.proofs.Leading.{passed_on}
use Rattle.live_run.proofs.Stepping.{not_looked, not_said, not_stepped, stepped}
use Rattle.live_run.proofs.Talking.{unsaid}
use Rattle.live_run.proofs.step.take_step.Goals as goal

pub returns-in_err-label-clause-stepped : goal.returns-in_err-label-clause-stepped
returns-in_err-label-clause-stepped g c =
    let t = told c.args.talk.now (g.P.Peer.past c.args.peer.now) (g.P.Peer.taken c.args.peer.now) (g.P.Peer.answers c.args.peer.now) in
    let past' = g.P.Peer.past c.next_label.new.peer in
    let taken' = g.P.Peer.taken c.next_label.new.peer in
    let t' = told c.next_label.new.talk past' taken' (g.P.Peer.answers c.next_label.new.peer) in
    let settings = g.M.Machine.settings c.args.machine.now in
    let old = g.M.Machine.state c.args.machine.now in
    let new = g.M.Machine.state c.next_label.new.machine in
    let trail = trail_of c.args.trail.now in
    passed_on (λ r. HasStepped r (lives_of c.args.live.now) settings (scene old trail t) (scene new trail t') past' taken') c.from_residual.result c.in_err-label.field-0.0 c.from_residual.ensures
    (not_stepped c.in_err-label.field-0.0 (lives_of c.args.live.now) settings old new trail t t' past' taken' c.in_err-label.ensures.next)

pub returns-in_err-add_label-clause-stepped : goal.returns-in_err-add_label-clause-stepped
returns-in_err-add_label-clause-stepped g c =
    let t = told c.args.talk.now (g.P.Peer.past c.args.peer.now) (g.P.Peer.taken c.args.peer.now) (g.P.Peer.answers c.args.peer.now) in
    let past = g.P.Peer.past c.next_label.new.peer in
    let taken = g.P.Peer.taken c.next_label.new.peer in
    let t' = told c.next_label.new.talk past taken (g.P.Peer.answers c.next_label.new.peer) in
    let past' = g.P.Peer.past c.add_label.new.peer in
    let taken' = g.P.Peer.taken c.add_label.new.peer in
    let settings = g.M.Machine.settings c.args.machine.now in
    let old = g.M.Machine.state c.args.machine.now in
    let new = g.M.Machine.state c.next_label.new.machine in
    let trail = trail_of c.args.trail.now in
    let lives = lives_of c.args.live.now in
    let there = scene new trail (told c.add_label.new.self past' taken' (g.P.Peer.answers c.add_label.new.peer)) in
    let next = subst (λ (o : Option Label). NextIs (Ok o) lives settings old new t t' past taken) c.in-Some.is c.in_ok-label.ensures.next in
    passed_on (λ r. HasStepped r lives settings (scene old trail t) there past' taken') c.from_residual-in_err-add_label.result (Stop.Fault c.in_err-add_label.field-0.0) c.from_residual-in_err-add_label.ensures
    (not_said lives settings c.in-Some.label old new trail t t' there past past' taken taken' c.in_err-add_label.field-0.0 next c.in_err-add_label.ensures.front)

pub returns-in_err-follow-clause-stepped : goal.returns-in_err-follow-clause-stepped
returns-in_err-follow-clause-stepped g c =
    let t = told c.args.talk.now (g.P.Peer.past c.args.peer.now) (g.P.Peer.taken c.args.peer.now) (g.P.Peer.answers c.args.peer.now) in
    let past = g.P.Peer.past c.next_label.new.peer in
    let taken = g.P.Peer.taken c.next_label.new.peer in
    let t' = told c.next_label.new.talk past taken (g.P.Peer.answers c.next_label.new.peer) in
    let past' = g.P.Peer.past c.add_label.new.peer in
    let taken' = g.P.Peer.taken c.add_label.new.peer in
    let answers' = g.P.Peer.answers c.add_label.new.peer in
    let settings = g.M.Machine.settings c.args.machine.now in
    let old = g.M.Machine.state c.args.machine.now in
    let new = g.M.Machine.state c.next_label.new.machine in
    let trail = trail_of c.args.trail.now in
    let lives = lives_of c.args.live.now in
    let there = scene new (trail_of c.follow.new.self) (told c.add_label.new.self past' taken' answers') in
    let next = subst (λ (o : Option Label). NextIs (Ok o) lives settings old new t t' past taken) c.in-Some.is c.in_ok-label.ensures.next in
    passed_on (λ r. HasStepped r lives settings (scene old trail t) there past' taken') c.from_residual-in_err-follow.result (Stop.Fault DriveError.WantOfMemory) c.from_residual-in_err-follow.ensures
    (not_said lives settings c.in-Some.label old new trail t t' there past past' taken taken' DriveError.WantOfMemory next
    (subst (λ (u : Told). IsFront u past' taken') c.in_ok-add_label.ensures.said (unsaid c.add_label.new.self.asks c.add_label.new.self.said.items past' taken' answers')))

pub returns-in_err-look_behind-clause-stepped : goal.returns-in_err-look_behind-clause-stepped
returns-in_err-look_behind-clause-stepped g c =
    let t = told c.args.talk.now (g.P.Peer.past c.args.peer.now) (g.P.Peer.taken c.args.peer.now) (g.P.Peer.answers c.args.peer.now) in
    let past = g.P.Peer.past c.next_label.new.peer in
    let taken = g.P.Peer.taken c.next_label.new.peer in
    let t' = told c.next_label.new.talk past taken (g.P.Peer.answers c.next_label.new.peer) in
    let t2 = told c.add_label.new.self (g.P.Peer.past c.add_label.new.peer) (g.P.Peer.taken c.add_label.new.peer) (g.P.Peer.answers c.add_label.new.peer) in
    let past' = g.P.Peer.past c.look_behind.new.peer in
    let taken' = g.P.Peer.taken c.look_behind.new.peer in
    let t3 = told c.look_behind.new.talk past' taken' (g.P.Peer.answers c.look_behind.new.peer) in
    let settings = g.M.Machine.settings c.args.machine.now in
    let old = g.M.Machine.state c.args.machine.now in
    let new = g.M.Machine.state c.next_label.new.machine in
    let trail = trail_of c.args.trail.now in
    let trail' = trail_of c.follow.new.self in
    let lives = lives_of c.args.live.now in
    let next = subst (λ (o : Option Label). NextIs (Ok o) lives settings old new t t' past taken) c.in-Some.is c.in_ok-label.ensures.next in
    passed_on (λ r. HasStepped r lives settings (scene old trail t) (scene new trail' t3) past' taken') c.from_residual-in_err-look_behind.result c.in_err-look_behind.field-0.0 c.from_residual-in_err-look_behind.ensures
    (not_looked c.in_err-look_behind.field-0.0 lives settings c.in-Some.label old new trail trail' t t' t2 t3 past past' taken taken' next
    c.in_ok-add_label.ensures.said c.in_ok-follow.ensures (c.in_err-look_behind.ensures.behind settings))

pub returns-clause-stepped : goal.returns-clause-stepped
returns-clause-stepped g c =
    let t = told c.args.talk.now (g.P.Peer.past c.args.peer.now) (g.P.Peer.taken c.args.peer.now) (g.P.Peer.answers c.args.peer.now) in
    let past = g.P.Peer.past c.next_label.new.peer in
    let taken = g.P.Peer.taken c.next_label.new.peer in
    let t' = told c.next_label.new.talk past taken (g.P.Peer.answers c.next_label.new.peer) in
    let t2 = told c.add_label.new.self (g.P.Peer.past c.add_label.new.peer) (g.P.Peer.taken c.add_label.new.peer) (g.P.Peer.answers c.add_label.new.peer) in
    let past' = g.P.Peer.past c.look_behind.new.peer in
    let taken' = g.P.Peer.taken c.look_behind.new.peer in
    let t3 = told c.look_behind.new.talk past' taken' (g.P.Peer.answers c.look_behind.new.peer) in
    let settings = g.M.Machine.settings c.args.machine.now in
    let old = g.M.Machine.state c.args.machine.now in
    let new = g.M.Machine.state c.next_label.new.machine in
    let lives = lives_of c.args.live.now in
    let next = subst (λ (o : Option Label). NextIs (Ok o) lives settings old new t t' past taken) c.in-Some.is c.in_ok-label.ensures.next in
    stepped lives settings c.in-Some.label old new (trail_of c.args.trail.now) (trail_of c.follow.new.self) t t' t2 t3 past past' taken taken' next
    c.in_ok-add_label.ensures.said c.in_ok-follow.ensures (c.in_ok-look_behind.ensures.behind settings)
