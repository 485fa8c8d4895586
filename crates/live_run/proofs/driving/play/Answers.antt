use Rattle.std.proofs.Common.{◌∙◌, arith, subst, sym}
use Rattle.std.specs.Prelude.{Err, Ok}
use Rattle.pnp_model.specs.Machine.{IsQuiet}
use Rattle.pnp_model.specs.Records.{Settings}
use Rattle.live_model.specs.Outputs.{Acts}
use Rattle.live_run.specs.Runs.{HasFollowed, HasPlayed, IsNext, scene, script_of}
use Rattle.live_run.specs.Talks.{told}
use Rattle.live_run.specs.Views.{lives_of, trail_of}
use Rattle.live_run.specs.declared.driving.Happening.{Happening}
use Rattle.live_run.specs.declared.stop.DriveError.{DriveError}
use Rattle.live_run.proofs.Leading.{passed_on}
use Rattle.live_run.proofs.Playing.{event_stops, never_plays, one_too_many, play_stops, plays_first, plays_on, plays_out}
use Rattle.live_run.proofs.driving.play.Goals as goal

pub returns-in_err-settle-clause-played : goal.returns-in_err-settle-clause-played
returns-in_err-settle-clause-played g c =
    let lives = lives_of c.args.live.now in
    let settings = g.M.Machine.settings c.args.machine.now in
    let first = scene (g.M.Machine.state c.args.machine.now) (trail_of c.args.trail.now) (told c.args.talk.now (g.P.Peer.past c.args.peer.now) (g.P.Peer.taken c.args.peer.now) (g.P.Peer.answers c.args.peer.now)) in
    let script = script_of c.args.reader.now in
    let past' = g.P.Peer.past c.settle.new.peer in
    let taken' = g.P.Peer.taken c.settle.new.peer in
    let t = told c.settle.new.talk past' taken' (g.P.Peer.answers c.settle.new.peer) in
    let now = scene (g.M.Machine.state c.settle.new.machine) (trail_of c.settle.new.trail) t in
    let stop = c.in_err-settle.field-0.0 in
    passed_on (λ r. HasPlayed r lives settings first script t past' taken') c.from_residual.result stop c.from_residual.ensures
    (never_plays stop lives settings first now script past' taken' c.in_err-settle.ensures.settled)

pub events-init : goal.events-init
events-init g c = record {
  plays =
      let past' = g.P.Peer.past c.settle.new.peer in
      let taken' = g.P.Peer.taken c.settle.new.peer in
      let now = scene (g.M.Machine.state c.settle.new.machine) (trail_of c.settle.new.trail) (told c.settle.new.talk past' taken' (g.P.Peer.answers c.settle.new.peer)) in
      plays_first (lives_of c.args.live.now) (g.M.Machine.settings c.args.machine.now) (scene (g.M.Machine.state c.args.machine.now) (trail_of c.args.trail.now) (told c.args.talk.now (g.P.Peer.past c.args.peer.now) (g.P.Peer.taken c.args.peer.now) (g.P.Peer.answers c.args.peer.now))) now
      (script_of c.args.reader.now) past' taken' c.in_ok-settle.ensures.settled;
  quiet = subst (λ (s : Settings). IsQuiet s (g.M.Machine.state c.settle.new.machine)) (sym c.in_ok-settle.ensures.same) c.in_ok-settle.ensures.settled.0;
  same = c.in_ok-settle.ensures.same;
  finished = c.requires.finished;
  events = omega (arith, c.requires.events, c.in_ok-settle.ensures.events);
  writes = c.in_ok-settle.ensures.writes;
  reads = c.in_ok-settle.ensures.reads;
}

pub returns-in_err-event-clause-played : goal.returns-in_err-event-clause-played
returns-in_err-event-clause-played g c =
    let lives = lives_of c.args.live.now in
    let settings = g.M.Machine.settings c.args.machine.now in
    let first = scene (g.M.Machine.state c.args.machine.now) (trail_of c.args.trail.now) (told c.args.talk.now (g.P.Peer.past c.args.peer.now) (g.P.Peer.taken c.args.peer.now) (g.P.Peer.answers c.args.peer.now)) in
    let script = script_of c.args.reader.now in
    let old = scene (g.M.Machine.state c.events.machine) (trail_of c.events.trail) (told c.events.talk (g.P.Peer.past c.events.peer) (g.P.Peer.taken c.events.peer) (g.P.Peer.answers c.events.peer)) in
    let rest = script_of c.events.reader in
    let more = script_of c.next_happening.new.reader in
    let past' = g.P.Peer.past c.next_happening.new.peer in
    let taken' = g.P.Peer.taken c.next_happening.new.peer in
    let t = told c.next_happening.new.talk past' taken' (g.P.Peer.answers c.next_happening.new.peer) in
    let stop = c.in_err-event.field-0.0 in
    passed_on (λ r. HasPlayed r lives settings first script t past' taken') c.from_residual-in_err-event.result stop c.from_residual-in_err-event.ensures
    (play_stops stop lives settings first old t script rest more past' taken' c.events.invariant.plays
    (subst (λ (s : Settings). IsNext (Err stop) lives s Acts old t rest more past' taken') c.events.invariant.same (c.in_err-event.ensures.next lives)))

pub returns-in_err-happen-in-Event-clause-played : goal.returns-in_err-happen-in-Event-clause-played
returns-in_err-happen-in-Event-clause-played g c =
    let lives = lives_of c.args.live.now in
    let settings = g.M.Machine.settings c.args.machine.now in
    let first = scene (g.M.Machine.state c.args.machine.now) (trail_of c.args.trail.now) (told c.args.talk.now (g.P.Peer.past c.args.peer.now) (g.P.Peer.taken c.args.peer.now) (g.P.Peer.answers c.args.peer.now)) in
    let script = script_of c.args.reader.now in
    let old = scene (g.M.Machine.state c.events.machine) (trail_of c.events.trail) (told c.events.talk (g.P.Peer.past c.events.peer) (g.P.Peer.taken c.events.peer) (g.P.Peer.answers c.events.peer)) in
    let rest = script_of c.events.reader in
    let more = script_of c.next_happening.new.reader in
    let past' = g.P.Peer.past c.next_happening.new.peer in
    let taken' = g.P.Peer.taken c.next_happening.new.peer in
    let t = told c.next_happening.new.talk past' taken' (g.P.Peer.answers c.next_happening.new.peer) in
    let next = subst (λ (h : Happening). IsNext (Ok h) lives settings Acts old t rest more past' taken') c.in-Event.is
    (subst (λ (s : Settings). IsNext (Ok c.in_ok-event.field-0) lives s Acts old t rest more past' taken') c.events.invariant.same (c.in_ok-event.ensures.next lives)) in
    let past'' = g.P.Peer.past c.happen.new.peer in
    let taken'' = g.P.Peer.taken c.happen.new.peer in
    let new = scene (g.M.Machine.state c.happen.new.machine) (trail_of c.happen.new.trail) (told c.happen.new.talk past'' taken'' (g.P.Peer.answers c.happen.new.peer)) in
    let middle = scene (g.M.Machine.state c.events.machine) (trail_of c.events.trail) t in
    let stop = c.in_err-happen-in-Event.field-0.0 in
    passed_on (λ r. HasPlayed r lives settings first script new.told past'' taken'') c.from_residual-in_err-happen-in-Event.result stop c.from_residual-in_err-happen-in-Event.ensures
    (event_stops stop lives settings first old new c.in-Event.event t script rest more past' past'' taken' taken'' c.events.invariant.plays next
    (subst (λ (s : Settings). HasFollowed (Err stop) lives s middle c.in-Event.event new past'' taken'') c.events.invariant.same c.in_err-happen-in-Event.ensures.followed))

pub returns-in-End-clause-played : goal.returns-in-End-clause-played
returns-in-End-clause-played g c =
    let lives = lives_of c.args.live.now in
    let settings = g.M.Machine.settings c.args.machine.now in
    let first = scene (g.M.Machine.state c.args.machine.now) (trail_of c.args.trail.now) (told c.args.talk.now (g.P.Peer.past c.args.peer.now) (g.P.Peer.taken c.args.peer.now) (g.P.Peer.answers c.args.peer.now)) in
    let script = script_of c.args.reader.now in
    let old = scene (g.M.Machine.state c.events.machine) (trail_of c.events.trail) (told c.events.talk (g.P.Peer.past c.events.peer) (g.P.Peer.taken c.events.peer) (g.P.Peer.answers c.events.peer)) in
    let rest = script_of c.events.reader in
    let more = script_of c.next_happening.new.reader in
    let past' = g.P.Peer.past c.next_happening.new.peer in
    let taken' = g.P.Peer.taken c.next_happening.new.peer in
    let t = told c.next_happening.new.talk past' taken' (g.P.Peer.answers c.next_happening.new.peer) in
    let next = subst (λ (h : Happening). IsNext (Ok h) lives settings Acts old t rest more past' taken') c.in-End.is
    (subst (λ (s : Settings). IsNext (Ok c.in_ok-event.field-0) lives s Acts old t rest more past' taken') c.events.invariant.same (c.in_ok-event.ensures.next lives)) in
    plays_out c.in-End.ended lives settings first old t script rest more past' taken' c.events.invariant.plays next

pub events-preserved : goal.events-preserved
events-preserved g c = record {
  plays =
      let lives = lives_of c.args.live.now in
      let settings = g.M.Machine.settings c.args.machine.now in
      let first = scene (g.M.Machine.state c.args.machine.now) (trail_of c.args.trail.now) (told c.args.talk.now (g.P.Peer.past c.args.peer.now) (g.P.Peer.taken c.args.peer.now) (g.P.Peer.answers c.args.peer.now)) in
      let script = script_of c.args.reader.now in
      let old = scene (g.M.Machine.state c.events.machine) (trail_of c.events.trail) (told c.events.talk (g.P.Peer.past c.events.peer) (g.P.Peer.taken c.events.peer) (g.P.Peer.answers c.events.peer)) in
      let rest = script_of c.events.reader in
      let more = script_of c.next_happening.new.reader in
      let past' = g.P.Peer.past c.next_happening.new.peer in
      let taken' = g.P.Peer.taken c.next_happening.new.peer in
      let t = told c.next_happening.new.talk past' taken' (g.P.Peer.answers c.next_happening.new.peer) in
      let next = subst (λ (h : Happening). IsNext (Ok h) lives settings Acts old t rest more past' taken') c.in-Event.is
      (subst (λ (s : Settings). IsNext (Ok c.in_ok-event.field-0) lives s Acts old t rest more past' taken') c.events.invariant.same (c.in_ok-event.ensures.next lives)) in
      let past'' = g.P.Peer.past c.happen.new.peer in
      let taken'' = g.P.Peer.taken c.happen.new.peer in
      let new = scene (g.M.Machine.state c.happen.new.machine) (trail_of c.happen.new.trail) (told c.happen.new.talk past'' taken'' (g.P.Peer.answers c.happen.new.peer)) in
      let middle = scene (g.M.Machine.state c.events.machine) (trail_of c.events.trail) t in
      plays_on lives settings first old new c.in-Event.event t script rest more past' past'' taken' taken'' c.events.invariant.plays next
      (subst (λ (s : Settings). HasFollowed (Ok c.in_ok-happen-in-Event.field-0) lives s middle c.in-Event.event new past'' taken'') c.events.invariant.same c.in_ok-happen-in-Event.ensures.followed);
  quiet = subst (λ (s : Settings). IsQuiet s (g.M.Machine.state c.happen.new.machine)) (sym c.in_ok-happen-in-Event.ensures.same) c.in_ok-happen-in-Event.ensures.followed.0;
  same = c.in_ok-happen-in-Event.ensures.same ∙ c.events.invariant.same;
  finished = c.in_ok-event.ensures.finished;
  events = omega (arith, c.events.invariant.events, c.in_ok-happen-in-Event.ensures.events);
  writes = omega (arith, c.events.invariant.writes, c.in_ok-event.ensures.writes, c.in_ok-happen-in-Event.ensures.writes);
  reads = omega (arith, c.events.invariant.reads, c.in_ok-event.ensures.reads, c.in_ok-happen-in-Event.ensures.reads);
}

pub returns-in_err-event-2-clause-played : goal.returns-in_err-event-2-clause-played
returns-in_err-event-2-clause-played g c =
    let lives = lives_of c.args.live.now in
    let settings = g.M.Machine.settings c.args.machine.now in
    let first = scene (g.M.Machine.state c.args.machine.now) (trail_of c.args.trail.now) (told c.args.talk.now (g.P.Peer.past c.args.peer.now) (g.P.Peer.taken c.args.peer.now) (g.P.Peer.answers c.args.peer.now)) in
    let script = script_of c.args.reader.now in
    let old = scene (g.M.Machine.state c.events.machine) (trail_of c.events.trail) (told c.events.talk (g.P.Peer.past c.events.peer) (g.P.Peer.taken c.events.peer) (g.P.Peer.answers c.events.peer)) in
    let rest = script_of c.events.reader in
    let more = script_of c.next_happening-2.new.reader in
    let past' = g.P.Peer.past c.next_happening-2.new.peer in
    let taken' = g.P.Peer.taken c.next_happening-2.new.peer in
    let t = told c.next_happening-2.new.talk past' taken' (g.P.Peer.answers c.next_happening-2.new.peer) in
    let stop = c.in_err-event-2.field-0.0 in
    passed_on (λ r. HasPlayed r lives settings first script t past' taken') c.from_residual-in_err-event-2.result stop c.from_residual-in_err-event-2.ensures
    (play_stops stop lives settings first old t script rest more past' taken' c.events.invariant.plays
    (subst (λ (s : Settings). IsNext (Err stop) lives s Acts old t rest more past' taken') c.events.invariant.same (c.in_err-event-2.ensures.next lives)))

pub returns-in-Event-2-clause-played : goal.returns-in-Event-2-clause-played
returns-in-Event-2-clause-played g c =
    let lives = lives_of c.args.live.now in
    let settings = g.M.Machine.settings c.args.machine.now in
    let first = scene (g.M.Machine.state c.args.machine.now) (trail_of c.args.trail.now) (told c.args.talk.now (g.P.Peer.past c.args.peer.now) (g.P.Peer.taken c.args.peer.now) (g.P.Peer.answers c.args.peer.now)) in
    let script = script_of c.args.reader.now in
    let old = scene (g.M.Machine.state c.events.machine) (trail_of c.events.trail) (told c.events.talk (g.P.Peer.past c.events.peer) (g.P.Peer.taken c.events.peer) (g.P.Peer.answers c.events.peer)) in
    let rest = script_of c.events.reader in
    let more = script_of c.next_happening-2.new.reader in
    let past' = g.P.Peer.past c.next_happening-2.new.peer in
    let taken' = g.P.Peer.taken c.next_happening-2.new.peer in
    let t = told c.next_happening-2.new.talk past' taken' (g.P.Peer.answers c.next_happening-2.new.peer) in
    let next = subst (λ (h : Happening). IsNext (Ok h) lives settings Acts old t rest more past' taken') c.in-Event-2.is
    (subst (λ (s : Settings). IsNext (Ok c.in_ok-event-2.field-0) lives s Acts old t rest more past' taken') c.events.invariant.same (c.in_ok-event-2.ensures.next lives)) in
    one_too_many DriveError.TooLarge lives settings first old c.in-Event-2.event script rest more c.next_happening-2.new.talk.asks c.next_happening-2.new.talk.said.items past' taken'
    (g.P.Peer.answers c.next_happening-2.new.peer) c.events.invariant.plays next

pub returns-in-End-2-clause-played : goal.returns-in-End-2-clause-played
returns-in-End-2-clause-played g c =
    let lives = lives_of c.args.live.now in
    let settings = g.M.Machine.settings c.args.machine.now in
    let first = scene (g.M.Machine.state c.args.machine.now) (trail_of c.args.trail.now) (told c.args.talk.now (g.P.Peer.past c.args.peer.now) (g.P.Peer.taken c.args.peer.now) (g.P.Peer.answers c.args.peer.now)) in
    let script = script_of c.args.reader.now in
    let old = scene (g.M.Machine.state c.events.machine) (trail_of c.events.trail) (told c.events.talk (g.P.Peer.past c.events.peer) (g.P.Peer.taken c.events.peer) (g.P.Peer.answers c.events.peer)) in
    let rest = script_of c.events.reader in
    let more = script_of c.next_happening-2.new.reader in
    let past' = g.P.Peer.past c.next_happening-2.new.peer in
    let taken' = g.P.Peer.taken c.next_happening-2.new.peer in
    let t = told c.next_happening-2.new.talk past' taken' (g.P.Peer.answers c.next_happening-2.new.peer) in
    let next = subst (λ (h : Happening). IsNext (Ok h) lives settings Acts old t rest more past' taken') c.in-End-2.is
    (subst (λ (s : Settings). IsNext (Ok c.in_ok-event-2.field-0) lives s Acts old t rest more past' taken') c.events.invariant.same (c.in_ok-event-2.ensures.next lives)) in
    plays_out c.in-End-2.ended lives settings first old t script rest more past' taken' c.events.invariant.plays next
