use Rattle.std.proofs.Common.{Bool, Option, arith, false, rules, subst, true, ◌≡◌}
use Rattle.std.specs.Prelude.{Ok}
use Rattle.pnp_labels.specs.declared.event.Event.{Event}
use Rattle.live_model.specs.Notes.{poll_words}
use Rattle.live_model.specs.Outputs.{Acts, asked}
use Rattle.live_run.specs.Polls.{HasPolled}
use Rattle.live_run.specs.Runs.{IsNext, scene, script_of}
use Rattle.live_run.specs.Talks.{told}
use Rattle.live_run.specs.Views.{IfWaits, trail_of}
use Rattle.live_run.proofs.Leading.{passed_on}
use Rattle.live_run.proofs.Playing.{none_completes, none_waits, one_completes, poll_stops}
use Rattle.live_run.proofs.driving.next_happening.Goals as goal

pub returns-then-not-waits-clause-next : goal.returns-then-not-waits-clause-next
returns-then-not-waits-clause-next g c = λ lives.
    let t = told c.args.talk.now (g.P.Peer.past c.args.peer.now) (g.P.Peer.taken c.args.peer.now) (g.P.Peer.answers c.args.peer.now) in
    let settings = g.M.Machine.settings c.args.machine.now in
    let trail = trail_of c.args.trail.now in
    let here = scene (g.M.Machine.state c.args.machine.now) trail t in
    let script = script_of c.args.reader.now in
    let past'' = g.P.Peer.past c.next_of_script.new.peer in
    let taken'' = g.P.Peer.taken c.next_of_script.new.peer in
    let t'' = told c.next_of_script.new.talk past'' taken'' (g.P.Peer.answers c.next_of_script.new.peer) in
    let more = script_of c.next_of_script.new.reader in
    let is : c.waits.result ≡ false = first_of (search rules, grind arith) in
    none_waits c.next_of_script.result lives settings here t'' script more past'' taken'' c.requires.quiet (subst (λ (b : Bool). IfWaits b trail) is c.waits.ensures) (c.next_of_script.ensures.next lives trail)

pub returns-in_err-event-clause-next : goal.returns-in_err-event-clause-next
returns-in_err-event-clause-next g c = λ lives.
    let t = told c.args.talk.now (g.P.Peer.past c.args.peer.now) (g.P.Peer.taken c.args.peer.now) (g.P.Peer.answers c.args.peer.now) in
    let settings = g.M.Machine.settings c.args.machine.now in
    let trail = trail_of c.args.trail.now in
    let here = scene (g.M.Machine.state c.args.machine.now) trail t in
    let script = script_of c.args.reader.now in
    let past' = g.P.Peer.past c.poll.new.peer in
    let taken' = g.P.Peer.taken c.poll.new.peer in
    let t' = told c.poll.new.self past' taken' (g.P.Peer.answers c.poll.new.peer) in
    let is : c.waits.result ≡ true = first_of (search rules, grind arith) in
    let waits = subst (λ (b : Bool). IfWaits b trail) is c.waits.ensures in
    let stop = c.in_err-event.field-0.0 in
    passed_on (λ r. IsNext r lives settings Acts here t' script script past' taken') c.from_residual.result stop c.from_residual.ensures
    (poll_stops stop lives settings here t' script script past' taken' c.requires.quiet waits c.in_err-event.ensures.polled)

pub returns-in-Some-clause-next : goal.returns-in-Some-clause-next
returns-in-Some-clause-next g c = λ lives.
    let t = told c.args.talk.now (g.P.Peer.past c.args.peer.now) (g.P.Peer.taken c.args.peer.now) (g.P.Peer.answers c.args.peer.now) in
    let settings = g.M.Machine.settings c.args.machine.now in
    let trail = trail_of c.args.trail.now in
    let here = scene (g.M.Machine.state c.args.machine.now) trail t in
    let script = script_of c.args.reader.now in
    let past' = g.P.Peer.past c.poll.new.peer in
    let taken' = g.P.Peer.taken c.poll.new.peer in
    let t' = told c.poll.new.self past' taken' (g.P.Peer.answers c.poll.new.peer) in
    let is : c.waits.result ≡ true = first_of (search rules, grind arith) in
    let waits = subst (λ (b : Bool). IfWaits b trail) is c.waits.ensures in
    let polled = subst (λ (o : Option Event). HasPolled (Ok o) trail (asked poll_words t) t' past' taken') c.in-Some.is c.in_ok-event.ensures.polled in
    one_completes lives settings here c.in-Some.event t' script past' taken' c.requires.quiet waits polled.0

pub returns-in-None-clause-next : goal.returns-in-None-clause-next
returns-in-None-clause-next g c = λ lives.
    let t = told c.args.talk.now (g.P.Peer.past c.args.peer.now) (g.P.Peer.taken c.args.peer.now) (g.P.Peer.answers c.args.peer.now) in
    let settings = g.M.Machine.settings c.args.machine.now in
    let trail = trail_of c.args.trail.now in
    let here = scene (g.M.Machine.state c.args.machine.now) trail t in
    let script = script_of c.args.reader.now in
    let past' = g.P.Peer.past c.poll.new.peer in
    let taken' = g.P.Peer.taken c.poll.new.peer in
    let t' = told c.poll.new.self past' taken' (g.P.Peer.answers c.poll.new.peer) in
    let is : c.waits.result ≡ true = first_of (search rules, grind arith) in
    let waits = subst (λ (b : Bool). IfWaits b trail) is c.waits.ensures in
    let polled = subst (λ (o : Option Event). HasPolled (Ok o) trail (asked poll_words t) t' past' taken') c.in-None.is c.in_ok-event.ensures.polled in
    let past'' = g.P.Peer.past c.next_of_script-in-None.new.peer in
    let taken'' = g.P.Peer.taken c.next_of_script-in-None.new.peer in
    let t'' = told c.next_of_script-in-None.new.talk past'' taken'' (g.P.Peer.answers c.next_of_script-in-None.new.peer) in
    let more = script_of c.next_of_script-in-None.new.reader in
    none_completes c.next_of_script-in-None.result lives settings here t' t'' script more past'' taken'' c.requires.quiet waits polled (c.next_of_script-in-None.ensures.next lives trail)
