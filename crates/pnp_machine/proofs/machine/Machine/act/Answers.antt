use Rattle.std.proofs.Common.{◌≡◌, ◌∙◌, false, ◌++◌, ◌∷◌, [], sym, subst, ap, IsSome, option_map}
use Rattle.pnp_labels.specs.declared.label.OpKind.{OpKind}
use Rattle.pnp_model.specs.Cores.{node_at}
use Rattle.pnp_model.specs.Handles.{was_told}
use Rattle.pnp_model.specs.Records.{State}
use Rattle.pnp_model.specs.States.{activity_at}
use Rattle.start_sequence.specs.declared.next.StartStep.{StartStep}
use Rattle.start_sequence.specs.declared.next.StartStep.TheVariants as steps
use Rattle.pnp_model.specs.Machine.{Steps}
use Rattle.start_sequence.specs.Begins.{settings_of}
use Rattle.pnp_machine.specs.Machines.{IsTurn, state_of}
use Rattle.pnp_machine.specs.Managers.{IsOfRun}
use Rattle.pnp_machine.specs.Operations.{operation_of}
use Rattle.pnp_machine.specs.Starts.{ActsFor}
use Rattle.pnp_machine.specs.TaskLists.{task_of}
use Rattle.pnp_machine.specs.declared.tasks.Duty.TheVariants as duties
use Rattle.pnp_machine.specs.declared.turn.Turn.TheVariants as turns
use Rattle.pnp_machine.proofs.ActSteps.{acted, ready_is, ready_untold}
use Rattle.pnp_machine.proofs.machine.Machine.act.Goals as goal

pub act-requires-clause-there : goal.act-requires-clause-there
act-requires-clause-there g c =
    subst (λ (s : State). IsSome (node_at c.args.serial s.core.nodes)) (sym c.self.view_is) (ready_is c.args.self.now c.args.serial c.requires.run c.requires.turn)

pub act-requires-clause-untold : goal.act-requires-clause-untold
act-requires-clause-untold g c =
    subst (λ (s : State). was_told (node_at c.args.serial s.core.nodes) ≡ false) (sym c.self.view_is) (ready_untold c.args.self.now c.args.serial c.requires.run c.requires.turn)

pub returns-in-Did-clause-done : goal.returns-in-Did-clause-done
returns-in-Did-clause-done g c = λ infs.
    let old = g.R.Drivers.rows c.self.inside.rack in
    let new = g.R.Drivers.rows c.act.new.rack in
    let ds = c.self.inside.devices in
    let works = c.self.inside.starts.works in
    let A : StartStep → Type 0 = λ step. ActsFor c.args.budget (activity_at c.args.serial works) works ds old step c.act.new.self.works c.act.new.devices new in
    let after = state_of c.act.new.devices new c.self.inside.disabled.paths c.act.new.self.works (option_map operation_of c.self.inside.operation) c.make_room.new.self.tasks in
    subst (λ (s : State). Steps (settings_of infs c.args.budget) s c.in-Did.label after) c.self.view_is
    (acted ds c.act.new.devices old new c.self.inside.disabled.paths works c.act.new.self.works (option_map operation_of c.self.inside.operation) c.self.inside.tasks.tasks c.make_room.new.self.tasks infs c.args.budget
    c.args.serial (steps.Did c.in-Did.label) (subst (λ (s : State). IsOfRun s) (sym c.self.view_is) c.requires.run)
    (subst (λ (s : State). IsTurn (turns.Act c.args.serial) s) (sym c.self.view_is) c.requires.turn) (subst A c.in-Did.is c.in_ok-label.ensures.acts)
    c.in_ok-make_room.ensures.tasks)

pub returns-in-Needs-clause-done : goal.returns-in-Needs-clause-done
returns-in-Needs-clause-done g c = λ infs.
    let old = g.R.Drivers.rows c.self.inside.rack in
    let new = g.R.Drivers.rows c.act.new.rack in
    let ds = c.self.inside.devices in
    let works = c.self.inside.starts.works in
    let A : StartStep → Type 0 = λ step. ActsFor c.args.budget (activity_at c.args.serial works) works ds old step c.act.new.self.works c.act.new.devices new in
    let after = state_of c.act.new.devices new c.self.inside.disabled.paths c.act.new.self.works (option_map operation_of c.self.inside.operation) c.append.new.self.tasks in
    subst (λ (s : State). Steps (settings_of infs c.args.budget) s c.in-Needs.label after) c.self.view_is
    (acted ds c.act.new.devices old new c.self.inside.disabled.paths works c.act.new.self.works (option_map operation_of c.self.inside.operation) c.self.inside.tasks.tasks c.append.new.self.tasks infs c.args.budget
    c.args.serial (steps.Needs c.in-Needs.label) (subst (λ (s : State). IsOfRun s) (sym c.self.view_is) c.requires.run)
    (subst (λ (s : State). IsTurn (turns.Act c.args.serial) s) (sym c.self.view_is) c.requires.turn) (subst A c.in-Needs.is c.in_ok-label.ensures.acts)
    (c.append.ensures.tasks ∙ ap (λ l. l ++ task_of (duties.Begin OpKind.Rebalance, c.args.serial) ∷ []) c.in_ok-make_room.ensures.tasks))

pub returns-in-Up-clause-done : goal.returns-in-Up-clause-done
returns-in-Up-clause-done g c = λ infs.
    let old = g.R.Drivers.rows c.self.inside.rack in
    let new = g.R.Drivers.rows c.act.new.rack in
    let ds = c.self.inside.devices in
    let works = c.self.inside.starts.works in
    let A : StartStep → Type 0 = λ step. ActsFor c.args.budget (activity_at c.args.serial works) works ds old step c.act.new.self.works c.act.new.devices new in
    let after = state_of c.act.new.devices new c.self.inside.disabled.paths c.act.new.self.works (option_map operation_of c.self.inside.operation) c.append-in-Up.new.self.tasks in
    subst (λ (s : State). Steps (settings_of infs c.args.budget) s c.in-Up.label after) c.self.view_is
    (acted ds c.act.new.devices old new c.self.inside.disabled.paths works c.act.new.self.works (option_map operation_of c.self.inside.operation) c.self.inside.tasks.tasks c.append-in-Up.new.self.tasks infs c.args.budget
    c.args.serial (steps.Up c.in-Up.label) (subst (λ (s : State). IsOfRun s) (sym c.self.view_is) c.requires.run)
    (subst (λ (s : State). IsTurn (turns.Act c.args.serial) s) (sym c.self.view_is) c.requires.turn) (subst A c.in-Up.is c.in_ok-label.ensures.acts)
    (c.append-in-Up.ensures.tasks ∙ ap (λ l. l ++ task_of (duties.List, c.args.serial) ∷ []) c.in_ok-make_room.ensures.tasks))

pub returns-in-Over-clause-done : goal.returns-in-Over-clause-done
returns-in-Over-clause-done g c = λ infs.
    let old = g.R.Drivers.rows c.self.inside.rack in
    let new = g.R.Drivers.rows c.act.new.rack in
    let ds = c.self.inside.devices in
    let works = c.self.inside.starts.works in
    let A : StartStep → Type 0 = λ step. ActsFor c.args.budget (activity_at c.args.serial works) works ds old step c.act.new.self.works c.act.new.devices new in
    let after = state_of c.act.new.devices new c.self.inside.disabled.paths c.act.new.self.works (option_map operation_of c.self.inside.operation) c.make_room.new.self.tasks in
    subst (λ (s : State). Steps (settings_of infs c.args.budget) s c.in-Over.label after) c.self.view_is
    (acted ds c.act.new.devices old new c.self.inside.disabled.paths works c.act.new.self.works (option_map operation_of c.self.inside.operation) c.self.inside.tasks.tasks c.make_room.new.self.tasks infs c.args.budget
    c.args.serial (steps.Over c.in-Over.label) (subst (λ (s : State). IsOfRun s) (sym c.self.view_is) c.requires.run)
    (subst (λ (s : State). IsTurn (turns.Act c.args.serial) s) (sym c.self.view_is) c.requires.turn) (subst A c.in-Over.is c.in_ok-label.ensures.acts)
    c.in_ok-make_room.ensures.tasks)
