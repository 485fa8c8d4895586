use Rattle.std.proofs.Common.{◌∙◌, Some, None, IfOk, sym, ap, subst, option_map}
use Rattle.pnp_model.specs.Machine.{is_back}
use Rattle.pnp_model.specs.Records.{Course, State}
use Rattle.start_sequence.specs.Begins.{settings_of}
use Rattle.pnp_machine.specs.Machines.{beside_made, state_of, IsNew}
use Rattle.pnp_machine.specs.Operations.{operation_of}
use Rattle.pnp_machine.specs.Rebalanced.{beside_rebalance, rebalance_label}
use Rattle.pnp_machine.proofs.OperationSteps.{none_starts, rebalance_needs, removal_needs, surprise_needs, finish_needs, removal_allows, other_allows, removal_back, removes_root, removes_new, removes_move, rebalance_moves, room_made, stays, told_by, was_is}
use Rattle.pnp_machine.proofs.machine.Machine.operate.Goals as goal
use Rattle.pnp_machine.proofs.machine.Machine.operate.Goals.{in-Some-Rebalancing+in_ok-step-in-Some-Rebalancing, in-Some-Removing+in_ok-settled-in-Some-Removing, in-Some-Surprising, in-Some-Finishing}

pub rebalance-requires-clause-there : goal.rebalance-requires-clause-there
rebalance-requires-clause-there g c =
    let s = c.self.inside in
    let rack = g.R.Drivers.rows s.rack in
    (rebalance_needs s.devices rack s.disabled.paths s.starts.works s.tasks.tasks c.args.self.now c.requires.run c.in-Some-Rebalancing.rebalance (was_is s.devices rack s.disabled.paths s.starts.works s.tasks.tasks c.args.self.now _ _ c.self.view_is (c.in-Some-Rebalancing.is ∙ ap Some c.in-Some-Rebalancing.field-0-is)) c.requires.turn)

pub apply_rebalance-requires-clause-new : goal.apply_rebalance-requires-clause-new
apply_rebalance-requires-clause-new g c =
    let runs = ap (λ (s : State). s.operation) (sym c.self.view_is) ∙ ap (option_map operation_of) (c.in-Some-Rebalancing.is ∙ ap Some c.in-Some-Rebalancing.field-0-is) in
    let works = c.in_ok-make_room.ensures.same ∙ ap (λ (s : State). s.activities) c.self.view_is in
    none_starts c.args.self.now c.requires.run c.in-Some-Rebalancing.rebalance runs c.target-target.result c.make_room.new.self.works works

pub remove-moved-requires-clause-there : goal.remove-moved-requires-clause-there
remove-moved-requires-clause-there g c =
    let s = c.self.inside in
    let rack = g.R.Drivers.rows s.rack in
    (removal_needs s.devices rack s.disabled.paths s.starts.works s.tasks.tasks c.args.self.now c.requires.run c.in-Some-Removing.removal (was_is s.devices rack s.disabled.paths s.starts.works s.tasks.tasks c.args.self.now _ _ c.self.view_is (c.in-Some-Removing.is ∙ ap Some c.in-Some-Removing.field-0-is)) c.in_ok-settled-in-Some-Removing.ensures.course).0

pub remove-moved-requires-clause-settles : goal.remove-moved-requires-clause-settles
remove-moved-requires-clause-settles g c =
    let s = c.self.inside in
    let rack = g.R.Drivers.rows s.rack in
    (removal_needs s.devices rack s.disabled.paths s.starts.works s.tasks.tasks c.args.self.now c.requires.run c.in-Some-Removing.removal (was_is s.devices rack s.disabled.paths s.starts.works s.tasks.tasks c.args.self.now _ _ c.self.view_is (c.in-Some-Removing.is ∙ ap Some c.in-Some-Removing.field-0-is)) c.in_ok-settled-in-Some-Removing.ensures.course).1

pub surprise-moved-requires-clause-there : goal.surprise-moved-requires-clause-there
surprise-moved-requires-clause-there g c =
    let s = c.self.inside in
    let rack = g.R.Drivers.rows s.rack in
    (surprise_needs s.devices rack s.disabled.paths s.starts.works s.tasks.tasks c.args.self.now c.requires.run c.in-Some-Surprising.surprise (was_is s.devices rack s.disabled.paths s.starts.works s.tasks.tasks c.args.self.now _ _ c.self.view_is (c.in-Some-Surprising.is ∙ ap Some c.in-Some-Surprising.field-0-is)) c.is_target_in_world-in_world.ensures.course).0

pub surprise-moved-requires-clause-direct : goal.surprise-moved-requires-clause-direct
surprise-moved-requires-clause-direct g c =
    let s = c.self.inside in
    let rack = g.R.Drivers.rows s.rack in
    (surprise_needs s.devices rack s.disabled.paths s.starts.works s.tasks.tasks c.args.self.now c.requires.run c.in-Some-Surprising.surprise (was_is s.devices rack s.disabled.paths s.starts.works s.tasks.tasks c.args.self.now _ _ c.self.view_is (c.in-Some-Surprising.is ∙ ap Some c.in-Some-Surprising.field-0-is)) c.is_target_in_world-in_world.ensures.course).1

pub surprise-moved-requires-clause-settles : goal.surprise-moved-requires-clause-settles
surprise-moved-requires-clause-settles g c =
    let s = c.self.inside in
    let rack = g.R.Drivers.rows s.rack in
    (surprise_needs s.devices rack s.disabled.paths s.starts.works s.tasks.tasks c.args.self.now c.requires.run c.in-Some-Surprising.surprise (was_is s.devices rack s.disabled.paths s.starts.works s.tasks.tasks c.args.self.now _ _ c.self.view_is (c.in-Some-Surprising.is ∙ ap Some c.in-Some-Surprising.field-0-is)) c.is_target_in_world-in_world.ensures.course).2

pub finish-moved-requires-clause-there : goal.finish-moved-requires-clause-there
finish-moved-requires-clause-there g c =
    let s = c.self.inside in
    let rack = g.R.Drivers.rows s.rack in
    (finish_needs s.devices rack s.disabled.paths s.starts.works s.tasks.tasks c.args.self.now c.requires.run c.in-Some-Finishing.finish (was_is s.devices rack s.disabled.paths s.starts.works s.tasks.tasks c.args.self.now _ _ c.self.view_is (c.in-Some-Finishing.is ∙ ap Some c.in-Some-Finishing.field-0-is)) c.is_current_in_world-in_world.ensures.course).0

pub finish-moved-requires-clause-leaves : goal.finish-moved-requires-clause-leaves
finish-moved-requires-clause-leaves g c =
    let s = c.self.inside in
    let rack = g.R.Drivers.rows s.rack in
    (finish_needs s.devices rack s.disabled.paths s.starts.works s.tasks.tasks c.args.self.now c.requires.run c.in-Some-Finishing.finish (was_is s.devices rack s.disabled.paths s.starts.works s.tasks.tasks c.args.self.now _ _ c.self.view_is (c.in-Some-Finishing.is ∙ ap Some c.in-Some-Finishing.field-0-is)) c.is_current_in_world-in_world.ensures.course).1

pub after_step-requires-clause-root : goal.after_step-requires-clause-root
after_step-requires-clause-root g c =
    let s = c.self.inside in
    let rack = g.R.Drivers.rows s.rack in
    let later = g.R.Drivers.rows c.remove-moved.new.rack in
    let o = c.in-Some-Removing.removal in
    let o2 = c.remove-moved.new.removal in
    let is = was_is s.devices rack s.disabled.paths s.starts.works s.tasks.tasks c.args.self.now _ _ c.self.view_is (c.in-Some-Removing.is ∙ ap Some c.in-Some-Removing.field-0-is) in
    removes_root s.devices rack s.disabled.paths s.starts.works s.tasks.tasks c.args.self.now c.remove-moved.new.self later o o2 is Course.Removing (is_back c.args.self.now o Course.Removing) c.in_ok-settled-in-Some-Removing.settled (removal_allows s.devices rack s.disabled.paths s.starts.works s.tasks.tasks c.args.self.now c.requires.run o is c.in_ok-settled-in-Some-Removing.ensures.course (is_back c.args.self.now o Course.Removing) c.in_ok-settled-in-Some-Removing.settled c.in_ok-settled-in-Some-Removing.ensures.path) c.remove-moved.result (removal_back s.devices rack s.disabled.paths s.starts.works s.tasks.tasks c.args.self.now c.remove-moved.new.self later o o2 (is_back c.args.self.now o Course.Removing) c.remove-moved.result c.remove-moved.ensures.removes)

pub after_step-requires-clause-new : goal.after_step-requires-clause-new
after_step-requires-clause-new g c =
    let s = c.self.inside in
    let rack = g.R.Drivers.rows s.rack in
    let later = g.R.Drivers.rows c.remove-moved.new.rack in
    let o = c.in-Some-Removing.removal in
    let o2 = c.remove-moved.new.removal in
    let is = was_is s.devices rack s.disabled.paths s.starts.works s.tasks.tasks c.args.self.now _ _ c.self.view_is (c.in-Some-Removing.is ∙ ap Some c.in-Some-Removing.field-0-is) in
    subst (λ p. IfOk c.remove-moved.result (λ step. IsNew step c.in_ok-settled-in-Some-Removing.settled p)) (sym c.in_ok-make_room-2.ensures.paths)
    (removes_new s.devices rack s.disabled.paths s.starts.works s.tasks.tasks c.args.self.now c.remove-moved.new.self later o o2 is Course.Removing (is_back c.args.self.now o Course.Removing) c.in_ok-settled-in-Some-Removing.settled (removal_allows s.devices rack s.disabled.paths s.starts.works s.tasks.tasks c.args.self.now c.requires.run o is c.in_ok-settled-in-Some-Removing.ensures.course (is_back c.args.self.now o Course.Removing) c.in_ok-settled-in-Some-Removing.settled c.in_ok-settled-in-Some-Removing.ensures.path) c.remove-moved.result (removal_back s.devices rack s.disabled.paths s.starts.works s.tasks.tasks c.args.self.now c.remove-moved.new.self later o o2 (is_back c.args.self.now o Course.Removing) c.remove-moved.result c.remove-moved.ensures.removes))

pub after_step-requires-in-Some-Surprising-clause-root : goal.after_step-requires-in-Some-Surprising-clause-root
after_step-requires-in-Some-Surprising-clause-root g c =
    let s = c.self.inside in
    let rack = g.R.Drivers.rows s.rack in
    let later = g.R.Drivers.rows c.surprise-moved.new.rack in
    let o = c.in-Some-Surprising.surprise in
    let o2 = c.surprise-moved.new.surprise in
    let is = was_is s.devices rack s.disabled.paths s.starts.works s.tasks.tasks c.args.self.now _ _ c.self.view_is (c.in-Some-Surprising.is ∙ ap Some c.in-Some-Surprising.field-0-is) in
    removes_root s.devices rack s.disabled.paths s.starts.works s.tasks.tasks c.args.self.now c.surprise-moved.new.self later o o2 is Course.Surprising c.is_target_in_world-in_world.result None (other_allows s.devices rack s.disabled.paths s.starts.works s.tasks.tasks c.args.self.now o Course.Surprising (λ e. cc) (λ e. cc) c.is_target_in_world-in_world.result None) c.surprise-moved.result c.surprise-moved.ensures.removes

pub after_step-requires-in-Some-Surprising-clause-new : goal.after_step-requires-in-Some-Surprising-clause-new
after_step-requires-in-Some-Surprising-clause-new g c =
    let s = c.self.inside in
    let rack = g.R.Drivers.rows s.rack in
    let later = g.R.Drivers.rows c.surprise-moved.new.rack in
    let o = c.in-Some-Surprising.surprise in
    let o2 = c.surprise-moved.new.surprise in
    let is = was_is s.devices rack s.disabled.paths s.starts.works s.tasks.tasks c.args.self.now _ _ c.self.view_is (c.in-Some-Surprising.is ∙ ap Some c.in-Some-Surprising.field-0-is) in
    subst (λ p. IfOk c.surprise-moved.result (λ step. IsNew step None p)) (sym c.in_ok-make_room-2.ensures.paths)
    (removes_new s.devices rack s.disabled.paths s.starts.works s.tasks.tasks c.args.self.now c.surprise-moved.new.self later o o2 is Course.Surprising c.is_target_in_world-in_world.result None (other_allows s.devices rack s.disabled.paths s.starts.works s.tasks.tasks c.args.self.now o Course.Surprising (λ e. cc) (λ e. cc) c.is_target_in_world-in_world.result None) c.surprise-moved.result c.surprise-moved.ensures.removes)

pub after_step-requires-in-Some-Finishing-clause-root : goal.after_step-requires-in-Some-Finishing-clause-root
after_step-requires-in-Some-Finishing-clause-root g c =
    let s = c.self.inside in
    let rack = g.R.Drivers.rows s.rack in
    let later = g.R.Drivers.rows c.finish-moved.new.rack in
    let o = c.in-Some-Finishing.finish in
    let o2 = c.finish-moved.new.finish in
    let is = was_is s.devices rack s.disabled.paths s.starts.works s.tasks.tasks c.args.self.now _ _ c.self.view_is (c.in-Some-Finishing.is ∙ ap Some c.in-Some-Finishing.field-0-is) in
    removes_root s.devices rack s.disabled.paths s.starts.works s.tasks.tasks c.args.self.now c.finish-moved.new.self later o o2 is Course.Finishing c.is_current_in_world-in_world.result None (other_allows s.devices rack s.disabled.paths s.starts.works s.tasks.tasks c.args.self.now o Course.Finishing (λ e. cc) (λ e. cc) c.is_current_in_world-in_world.result None) c.finish-moved.result c.finish-moved.ensures.removes

pub after_step-requires-in-Some-Finishing-clause-new : goal.after_step-requires-in-Some-Finishing-clause-new
after_step-requires-in-Some-Finishing-clause-new g c =
    let s = c.self.inside in
    let rack = g.R.Drivers.rows s.rack in
    let later = g.R.Drivers.rows c.finish-moved.new.rack in
    let o = c.in-Some-Finishing.finish in
    let o2 = c.finish-moved.new.finish in
    let is = was_is s.devices rack s.disabled.paths s.starts.works s.tasks.tasks c.args.self.now _ _ c.self.view_is (c.in-Some-Finishing.is ∙ ap Some c.in-Some-Finishing.field-0-is) in
    subst (λ p. IfOk c.finish-moved.result (λ step. IsNew step None p)) (sym c.in_ok-make_room-2.ensures.paths)
    (removes_new s.devices rack s.disabled.paths s.starts.works s.tasks.tasks c.args.self.now c.finish-moved.new.self later o o2 is Course.Finishing c.is_current_in_world-in_world.result None (other_allows s.devices rack s.disabled.paths s.starts.works s.tasks.tasks c.args.self.now o Course.Finishing (λ e. cc) (λ e. cc) c.is_current_in_world-in_world.result None) c.finish-moved.result c.finish-moved.ensures.removes)

pub returns-clause-done : goal.returns-clause-done
returns-clause-done g c =
    let s = c.self.inside in
    let rack = g.R.Drivers.rows s.rack in
    elim c.match-operation-2.branch [
      | in-Some-Rebalancing+in_ok-step-in-Some-Rebalancing w ↦ rw w.result-is (rw w.self-inside-is (λ infs.
          let later = g.R.Drivers.rows w.rebalance.new.rack in
          let ds = w.rebalance.new.self in
          let step = w.in_ok-step-in-Some-Rebalancing.step in
          let r = w.operation-in-Rebalancing-1.given.0.0 in
          let r2 = w.rebalance.new.rebalance in
          let is = was_is s.devices rack s.disabled.paths s.starts.works s.tasks.tasks c.args.self.now _ _ c.self.view_is (c.operation-in-Some-1.given.1 ∙ ap Some w.operation-in-Rebalancing-1.given.1) in
          let done = w.apply_rebalance.ensures.state ds later c.make_room-2.new.self.paths
          ∙ ap (λ i. beside_rebalance step i (state_of ds later c.make_room-2.new.self.paths c.make_room.new.self.works (Some r2) c.make_room-3.new.self.tasks)) w.target-target.ensures
          ∙ room_made (λ x. beside_rebalance step r2.target x) ds later r2 _ _ _ _ _ _ c.in_ok-make_room-2.ensures.paths c.in_ok-make_room.ensures.same c.in_ok-make_room-3.ensures.tasks in
          let moves = rebalance_moves s.devices rack s.disabled.paths s.starts.works s.tasks.tasks c.args.self.now ds later r r2 infs c.args.budget step is w.rebalance.ensures.course c.requires.turn w.in_ok-step-in-Some-Rebalancing.ensures.rebalances in
          told_by (settings_of infs c.args.budget) c.args.self.now w.apply_rebalance.result (rebalance_label step) _ _ w.apply_rebalance.ensures.label done moves))
      | in-Some-Removing+in_ok-settled-in-Some-Removing w ↦ rw w.result-is (rw w.self-inside-is (
          let later = g.R.Drivers.rows w.remove-moved.new.rack in
          let ds = w.remove-moved.new.self in
          let moved = w.remove-moved.result in
          let o = w.operation-in-Removing-1.given.0.0 in
          let o2 = w.remove-moved.new.removal in
          let settled = w.in_ok-settled-in-Some-Removing.settled in
          let is = was_is s.devices rack s.disabled.paths s.starts.works s.tasks.tasks c.args.self.now _ _ c.self.view_is (c.operation-in-Some-1.given.1 ∙ ap Some w.operation-in-Removing-1.given.1) in
          let in_world = is_back c.args.self.now o Course.Removing in
          let allowed = removal_allows s.devices rack s.disabled.paths s.starts.works s.tasks.tasks c.args.self.now c.requires.run o is w.in_ok-settled-in-Some-Removing.ensures.course in_world settled w.in_ok-settled-in-Some-Removing.ensures.path in
          let made = removal_back s.devices rack s.disabled.paths s.starts.works s.tasks.tasks c.args.self.now ds later o o2 in_world moved w.remove-moved.ensures.removes in
          let done = w.after_step.ensures.state later c.make_room.new.self.works ∙ room_made (λ x. beside_made moved settled x) ds later o2 _ _ _ _ _ _ c.in_ok-make_room-2.ensures.paths c.in_ok-make_room.ensures.same c.in_ok-make_room-3.ensures.tasks in
          removes_move s.devices rack s.disabled.paths s.starts.works s.tasks.tasks c.args.self.now ds later o o2 is Course.Removing in_world settled allowed moved made c.args.budget w.after_step.result _ w.after_step.ensures.label done w.in_ok-settled-in-Some-Removing.ensures.course (ap (λ (x : State). is_back x o Course.Removing) (sym is)) c.requires.turn))
      | in-Some-Surprising w ↦ rw w.result-is (rw w.self-inside-is (
          let later = g.R.Drivers.rows w.surprise-moved.new.rack in
          let ds = w.surprise-moved.new.self in
          let moved = w.surprise-moved.result in
          let o = w.operation-in-Surprising-1.given.0.0 in
          let o2 = w.surprise-moved.new.surprise in
          let settled = None in
          let is = was_is s.devices rack s.disabled.paths s.starts.works s.tasks.tasks c.args.self.now _ _ c.self.view_is (c.operation-in-Some-1.given.1 ∙ ap Some w.operation-in-Surprising-1.given.1) in
          let in_world = w.is_target_in_world-in_world.result in
          let allowed = other_allows s.devices rack s.disabled.paths s.starts.works s.tasks.tasks c.args.self.now o Course.Surprising (λ e. cc) (λ e. cc) in_world settled in
          let made = w.surprise-moved.ensures.removes in
          let done = w.after_step-in-Some-Surprising.ensures.state later c.make_room.new.self.works ∙ room_made (λ x. beside_made moved settled x) ds later o2 _ _ _ _ _ _ c.in_ok-make_room-2.ensures.paths c.in_ok-make_room.ensures.same c.in_ok-make_room-3.ensures.tasks in
          removes_move s.devices rack s.disabled.paths s.starts.works s.tasks.tasks c.args.self.now ds later o o2 is Course.Surprising in_world settled allowed moved made c.args.budget w.after_step-in-Some-Surprising.result _ w.after_step-in-Some-Surprising.ensures.label done w.is_target_in_world-in_world.ensures.course w.is_target_in_world-in_world.ensures.born c.requires.turn))
      | in-Some-Finishing w ↦ rw w.result-is (rw w.self-inside-is (
          let later = g.R.Drivers.rows w.finish-moved.new.rack in
          let ds = w.finish-moved.new.self in
          let moved = w.finish-moved.result in
          let o = w.operation-in-Finishing-1.given.0.0 in
          let o2 = w.finish-moved.new.finish in
          let settled = None in
          let is = was_is s.devices rack s.disabled.paths s.starts.works s.tasks.tasks c.args.self.now _ _ c.self.view_is (c.operation-in-Some-1.given.1 ∙ ap Some w.operation-in-Finishing-1.given.1) in
          let in_world = w.is_current_in_world-in_world.result in
          let allowed = other_allows s.devices rack s.disabled.paths s.starts.works s.tasks.tasks c.args.self.now o Course.Finishing (λ e. cc) (λ e. cc) in_world settled in
          let made = w.finish-moved.ensures.removes in
          let done = w.after_step-in-Some-Finishing.ensures.state later c.make_room.new.self.works ∙ room_made (λ x. beside_made moved settled x) ds later o2 _ _ _ _ _ _ c.in_ok-make_room-2.ensures.paths c.in_ok-make_room.ensures.same c.in_ok-make_room-3.ensures.tasks in
          removes_move s.devices rack s.disabled.paths s.starts.works s.tasks.tasks c.args.self.now ds later o o2 is Course.Finishing in_world settled allowed moved made c.args.budget w.after_step-in-Some-Finishing.result _ w.after_step-in-Some-Finishing.ensures.label done w.is_current_in_world-in_world.ensures.course w.is_current_in_world-in_world.ensures.born c.requires.turn))
    ]

pub returns-clause-err : goal.returns-clause-err
returns-clause-err g c =
    let s = c.self.inside in
    let rack = g.R.Drivers.rows s.rack in
    elim c.match-operation-2.branch [
      | in-Some-Rebalancing+in_ok-step-in-Some-Rebalancing w ↦ rw w.result-is tt
      | in-Some-Removing+in_ok-settled-in-Some-Removing w ↦ rw w.result-is (rw w.self-inside-is (
          let later = g.R.Drivers.rows w.remove-moved.new.rack in
          let ds = w.remove-moved.new.self in
          let moved = w.remove-moved.result in
          let o = w.operation-in-Removing-1.given.0.0 in
          let o2 = w.remove-moved.new.removal in
          let settled = w.in_ok-settled-in-Some-Removing.settled in
          let is = was_is s.devices rack s.disabled.paths s.starts.works s.tasks.tasks c.args.self.now _ _ c.self.view_is (c.operation-in-Some-1.given.1 ∙ ap Some w.operation-in-Removing-1.given.1) in
          let in_world = is_back c.args.self.now o Course.Removing in
          let allowed = removal_allows s.devices rack s.disabled.paths s.starts.works s.tasks.tasks c.args.self.now c.requires.run o is w.in_ok-settled-in-Some-Removing.ensures.course in_world settled w.in_ok-settled-in-Some-Removing.ensures.path in
          let made = removal_back s.devices rack s.disabled.paths s.starts.works s.tasks.tasks c.args.self.now ds later o o2 in_world moved w.remove-moved.ensures.removes in
          let done = w.after_step.ensures.state later c.make_room.new.self.works ∙ room_made (λ x. beside_made moved settled x) ds later o2 _ _ _ _ _ _ c.in_ok-make_room-2.ensures.paths c.in_ok-make_room.ensures.same c.in_ok-make_room-3.ensures.tasks in
          stays s.devices rack s.disabled.paths s.starts.works s.tasks.tasks c.args.self.now ds later o o2 is Course.Removing in_world settled allowed moved made c.args.budget w.after_step.result _ w.after_step.ensures.label done w.remove-moved.ensures.err w.remove-moved.ensures.rack w.remove-moved.ensures.removal))
      | in-Some-Surprising w ↦ rw w.result-is (rw w.self-inside-is (
          let later = g.R.Drivers.rows w.surprise-moved.new.rack in
          let ds = w.surprise-moved.new.self in
          let moved = w.surprise-moved.result in
          let o = w.operation-in-Surprising-1.given.0.0 in
          let o2 = w.surprise-moved.new.surprise in
          let settled = None in
          let is = was_is s.devices rack s.disabled.paths s.starts.works s.tasks.tasks c.args.self.now _ _ c.self.view_is (c.operation-in-Some-1.given.1 ∙ ap Some w.operation-in-Surprising-1.given.1) in
          let in_world = w.is_target_in_world-in_world.result in
          let allowed = other_allows s.devices rack s.disabled.paths s.starts.works s.tasks.tasks c.args.self.now o Course.Surprising (λ e. cc) (λ e. cc) in_world settled in
          let made = w.surprise-moved.ensures.removes in
          let done = w.after_step-in-Some-Surprising.ensures.state later c.make_room.new.self.works ∙ room_made (λ x. beside_made moved settled x) ds later o2 _ _ _ _ _ _ c.in_ok-make_room-2.ensures.paths c.in_ok-make_room.ensures.same c.in_ok-make_room-3.ensures.tasks in
          stays s.devices rack s.disabled.paths s.starts.works s.tasks.tasks c.args.self.now ds later o o2 is Course.Surprising in_world settled allowed moved made c.args.budget w.after_step-in-Some-Surprising.result _ w.after_step-in-Some-Surprising.ensures.label done w.surprise-moved.ensures.err w.surprise-moved.ensures.rack w.surprise-moved.ensures.surprise))
      | in-Some-Finishing w ↦ rw w.result-is (rw w.self-inside-is (
          let later = g.R.Drivers.rows w.finish-moved.new.rack in
          let ds = w.finish-moved.new.self in
          let moved = w.finish-moved.result in
          let o = w.operation-in-Finishing-1.given.0.0 in
          let o2 = w.finish-moved.new.finish in
          let settled = None in
          let is = was_is s.devices rack s.disabled.paths s.starts.works s.tasks.tasks c.args.self.now _ _ c.self.view_is (c.operation-in-Some-1.given.1 ∙ ap Some w.operation-in-Finishing-1.given.1) in
          let in_world = w.is_current_in_world-in_world.result in
          let allowed = other_allows s.devices rack s.disabled.paths s.starts.works s.tasks.tasks c.args.self.now o Course.Finishing (λ e. cc) (λ e. cc) in_world settled in
          let made = w.finish-moved.ensures.removes in
          let done = w.after_step-in-Some-Finishing.ensures.state later c.make_room.new.self.works ∙ room_made (λ x. beside_made moved settled x) ds later o2 _ _ _ _ _ _ c.in_ok-make_room-2.ensures.paths c.in_ok-make_room.ensures.same c.in_ok-make_room-3.ensures.tasks in
          stays s.devices rack s.disabled.paths s.starts.works s.tasks.tasks c.args.self.now ds later o o2 is Course.Finishing in_world settled allowed moved made c.args.budget w.after_step-in-Some-Finishing.result _ w.after_step-in-Some-Finishing.ensures.label done w.finish-moved.ensures.err w.finish-moved.ensures.rack w.finish-moved.ensures.finish))
    ]
