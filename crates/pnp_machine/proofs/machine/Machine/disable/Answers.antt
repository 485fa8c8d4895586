use Rattle.std.proofs.Common.{◌≡◌, ◌++◌, ◌∷◌, [], Some, IsSome, sym, ap, subst, ◌∙◌, option_map}
use Rattle.device_ids.specs.Folding.{same}
use Rattle.pnp_model.specs.Cores.{node_at}
use Rattle.pnp_model.specs.Records.{State}
use Rattle.pnp_model.specs.States.{node_of}
use Rattle.devnode_tree.specs.Trees.{Tree}
use Rattle.pnp_machine.specs.Operations.{operation_of}
use Rattle.pnp_machine.specs.TaskLists.{task_of}
use Rattle.pnp_machine.specs.declared.tasks.Duty.TheVariants as Duty
use Rattle.pnp_labels.specs.declared.label.OpKind.{OpKind}
use Rattle.pnp_machine.proofs.EventSteps.{is_there}
use Rattle.pnp_machine.proofs.CommandSteps.{disables}
use Rattle.pnp_machine.proofs.machine.Machine.disable.Goals as goal

pub own_path-requires : goal.own_path-requires
own_path-requires g c =
    let there = is_there (λ n. same n.path c.args.path.now) c.in-Some.serial c.tree-tree.result.now.nodes c.in-Some.ensures in
    subst (λ (s : State). IsSome (node_at c.in-Some.serial s.core.nodes)) c.self.view_is (subst (λ (t : Tree). IsSome (node_at c.in-Some.serial t.nodes)) c.tree-tree.ensures there)

pub returns-clause-done : goal.returns-clause-done
returns-clause-done g c =
    let found = subst (λ (t : Tree). Some c.in-Some.serial ≡ option_map (λ n. n.serial) (node_of c.args.path.now t.nodes)) c.tree-tree.ensures c.in-Some.ensures in
    disables c.self.inside.devices (g.R.Drivers.rows c.self.inside.rack) c.self.inside.disabled.paths c.self.inside.starts.works (option_map operation_of c.self.inside.operation)
    c.self.inside.tasks.tasks c.args.self.now c.self.view_is c.own_path.ensures.order c.append.new.self.tasks c.args.path.now c.in-Some.serial found c.if-serial-eq0.false c.in_ok-path.path
    c.in_ok-path.ensures.path (sym c.has.ensures ∙ c.if-has.false)
    (c.append.ensures.tasks ∙ ap (λ ts. ts ++ task_of (Duty.Begin OpKind.Disable, c.in-Some.serial) ∷ []) c.in_ok-make_room.ensures.tasks)
