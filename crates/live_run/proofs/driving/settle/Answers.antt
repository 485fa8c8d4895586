use Rattle.std.proofs.Common.{◌≡◌, ◌∙◌, arith, refl, rules, subst, true}
use Rattle.std.specs.Prelude.{Err, Ok}
use Rattle.pnp_model.specs.Records.{Settings}
use Rattle.live_run.specs.Runs.{HasSettled, HasStepped, scene}
use Rattle.live_run.specs.Talks.{told}
use Rattle.live_run.specs.Views.{lives_of, trail_of}
use Rattle.live_run.specs.declared.stop.DriveError.{DriveError}
use Rattle.live_run.proofs.Leading.{passed_on}
use Rattle.live_run.proofs.Settling.{no_steps, one_more, steps_stop, too_many}
use Rattle.live_run.proofs.driving.settle.Goals as goal

pub steps-init : goal.steps-init
steps-init g c = record {
  steps = no_steps (lives_of c.args.live.now) (g.M.Machine.settings c.args.machine.now)
      (scene (g.M.Machine.state c.args.machine.now) (trail_of c.args.trail.now) (told c.args.talk.now (g.P.Peer.past c.args.peer.now) (g.P.Peer.taken c.args.peer.now) (g.P.Peer.answers c.args.peer.now)));
  same = refl;
  events = refl;
  writes = omega arith;
  reads = omega arith;
}

pub returns-in_err-take_step-clause-settled : goal.returns-in_err-take_step-clause-settled
returns-in_err-take_step-clause-settled g c =
    let lives = lives_of c.args.live.now in
    let settings = g.M.Machine.settings c.args.machine.now in
    let first = scene (g.M.Machine.state c.args.machine.now) (trail_of c.args.trail.now) (told c.args.talk.now (g.P.Peer.past c.args.peer.now) (g.P.Peer.taken c.args.peer.now) (g.P.Peer.answers c.args.peer.now)) in
    let old = scene (g.M.Machine.state c.steps.machine) (trail_of c.steps.trail) (told c.steps.talk (g.P.Peer.past c.steps.peer) (g.P.Peer.taken c.steps.peer) (g.P.Peer.answers c.steps.peer)) in
    let past' = g.P.Peer.past c.take_step.new.peer in
    let taken' = g.P.Peer.taken c.take_step.new.peer in
    let new = scene (g.M.Machine.state c.take_step.new.machine) (trail_of c.take_step.new.trail) (told c.take_step.new.talk past' taken' (g.P.Peer.answers c.take_step.new.peer)) in
    let stop = c.in_err-take_step.field-0.0 in
    passed_on (λ r. HasSettled r lives settings first new past' taken') c.from_residual.result stop c.from_residual.ensures
    (steps_stop stop lives settings first old new past' taken' c.steps.invariant.steps
    (subst (λ (s : Settings). HasStepped (Err stop) lives s old new past' taken') c.steps.invariant.same c.in_err-take_step.ensures.stepped))

pub steps-preserved : goal.steps-preserved
steps-preserved g c = record {
  steps =
      let lives = lives_of c.args.live.now in
      let settings = g.M.Machine.settings c.args.machine.now in
      let first = scene (g.M.Machine.state c.args.machine.now) (trail_of c.args.trail.now) (told c.args.talk.now (g.P.Peer.past c.args.peer.now) (g.P.Peer.taken c.args.peer.now) (g.P.Peer.answers c.args.peer.now)) in
      let old = scene (g.M.Machine.state c.steps.machine) (trail_of c.steps.trail) (told c.steps.talk (g.P.Peer.past c.steps.peer) (g.P.Peer.taken c.steps.peer) (g.P.Peer.answers c.steps.peer)) in
      let past' = g.P.Peer.past c.take_step.new.peer in
      let taken' = g.P.Peer.taken c.take_step.new.peer in
      let new = scene (g.M.Machine.state c.take_step.new.machine) (trail_of c.take_step.new.trail) (told c.take_step.new.talk past' taken' (g.P.Peer.answers c.take_step.new.peer)) in
      let went : c.in_ok-take_step.field-0 ≡ true = first_of (search rules, grind arith) in
      one_more c.in_ok-take_step.field-0 lives settings first old new past' taken' went c.steps.invariant.steps
      (subst (λ (s : Settings). HasStepped (Ok c.in_ok-take_step.field-0) lives s old new past' taken') c.steps.invariant.same c.in_ok-take_step.ensures.stepped);
  same = c.in_ok-take_step.ensures.same ∙ c.steps.invariant.same;
  events = c.in_ok-take_step.ensures.events ∙ c.steps.invariant.events;
  writes = omega (arith, c.steps.invariant.writes, c.in_ok-take_step.ensures.writes);
  reads = omega (arith, c.steps.invariant.reads, c.in_ok-take_step.ensures.reads);
}

pub returns-clause-settled : goal.returns-clause-settled
returns-clause-settled g c =
    too_many DriveError.TooLarge (lives_of c.args.live.now) (g.M.Machine.settings c.args.machine.now)
    (scene (g.M.Machine.state c.args.machine.now) (trail_of c.args.trail.now) (told c.args.talk.now (g.P.Peer.past c.args.peer.now) (g.P.Peer.taken c.args.peer.now) (g.P.Peer.answers c.args.peer.now)))
    (g.M.Machine.state c.steps.machine) (trail_of c.steps.trail) c.steps.talk.asks c.steps.talk.said.items (g.P.Peer.past c.steps.peer) (g.P.Peer.taken c.steps.peer) (g.P.Peer.answers c.steps.peer)
    c.steps.invariant.steps
