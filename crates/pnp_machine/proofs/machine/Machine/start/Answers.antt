use Rattle.std.proofs.Common.{◌∙◌, sym, ap, Some, None, option_map, subst}
use Rattle.pnp_model.specs.Cores.{node_at}
use Rattle.pnp_model.specs.Records.{State}
use Rattle.pnp_model.specs.States.{entered}
use Rattle.start_sequence.specs.Begins.{settings_of, HasFewIds}
use Rattle.pnp_machine.specs.Operations.{operation_of}
use Rattle.pnp_machine.proofs.Ids.{few_at}
use Rattle.pnp_machine.proofs.StartSteps.{start_skipped, started}
use Rattle.pnp_machine.proofs.machine.Machine.start.Goals as goal

pub returns-then-not-can_start-clause-done : goal.returns-then-not-can_start-clause-done
returns-then-not-can_start-clause-done g c = λ budget.
    start_skipped (settings_of c.args.infs.now budget) c.args.self.now c.args.serial _ _ (sym c.if-not-can_start.ensures) c.skip_start.ensures

pub begin-requires-clause-ids : goal.begin-requires-clause-ids
begin-requires-clause-ids g c =
    subst (λ (s : State). HasFewIds (node_at c.args.serial s.core.nodes)) (sym c.self.view_is) (few_at c.args.self.now c.args.serial c.requires.ids)

pub returns-in-Some-clause-done : goal.returns-in-Some-clause-done
returns-in-Some-clause-done g c = λ budget.
    let able = rw (← c.self.view_is) at (sym c.can_start.ensures ∙ c.if-not-can_start.false) in
    let shut = rw (← c.self.view_is) at c.is_disabled-disabled.ensures in
    let begun = rw c.in-Some.is at c.in_ok-label.ensures.begun in
    let works = c.put.ensures ∙ ap (entered c.in-Some.work) c.in_ok-make_room.ensures.same in
    rw (← c.self.view_is)
    (started c.self.inside.devices c.begin.new.self (g.R.Drivers.rows c.self.inside.rack) c.self.inside.disabled.paths c.self.inside.starts.works c.put.new.self.works
    (option_map operation_of c.self.inside.operation) c.self.inside.tasks.tasks c.drop_first.new.self.tasks c.in_ok-label.ensures.same c.args.infs.now c.args.serial c.is_disabled-disabled.result
    c.in_ok-label.label (Some c.in-Some.work) able shut begun works c.drop_first.ensures.tasks budget)

pub returns-in-None-clause-done : goal.returns-in-None-clause-done
returns-in-None-clause-done g c = λ budget.
    let able = rw (← c.self.view_is) at (sym c.can_start.ensures ∙ c.if-not-can_start.false) in
    let shut = rw (← c.self.view_is) at c.is_disabled-disabled.ensures in
    let begun = rw c.in-None.is at c.in_ok-label.ensures.begun in
    rw (← c.self.view_is)
    (started c.self.inside.devices c.begin.new.self (g.R.Drivers.rows c.self.inside.rack) c.self.inside.disabled.paths c.self.inside.starts.works c.make_room.new.self.works
    (option_map operation_of c.self.inside.operation) c.self.inside.tasks.tasks c.drop_first.new.self.tasks c.in_ok-label.ensures.same c.args.infs.now c.args.serial c.is_disabled-disabled.result
    c.in_ok-label.label None able shut begun c.in_ok-make_room.ensures.same c.drop_first.ensures.tasks budget)
