use Rattle.std.proofs.Common.{◌≡◌, ◌∙◌, ◌++◌, ◌∷◌, [], ap, ap₂, subst, option_map}
use Rattle.std.specs.Option.{option_copied}
use Rattle.pnp_labels.specs.declared.label.OpKind.{OpKind}
use Rattle.pnp_model.specs.Cores.{node_at, serials_of}
use Rattle.pnp_model.specs.Records.{Node}
use Rattle.devnode_tree.specs.Trees.{Tree, Ascends}
use Rattle.pnp_machine.specs.Devices.{Devices, is_gone_from}
use Rattle.pnp_machine.specs.Machines.{state_of}
use Rattle.pnp_machine.specs.Operations.{operation_of}
use Rattle.pnp_machine.specs.TaskLists.{task_of}
use Rattle.pnp_machine.specs.declared.tasks.Duty.TheVariants as duties
use Rattle.pnp_machine.proofs.ListSteps.{gone_at, gone_is}
use Rattle.pnp_machine.proofs.machine.Machine.list_gone.Goals as goal

pub unreachable-requires : goal.unreachable-requires
unreachable-requires g c =
    let tree = c.tree.ensures ∙ ap (λ (d : Devices). d.tree) c.gone_below.ensures.same in
    let asc = subst (λ (t : Tree). Ascends 0 (serials_of t.nodes)) tree c.node.ensures.tree.ascends in
    let gone = gone_at (is_gone_from c.self.inside.devices.world.devices c.make_room.new.self.tasks) c.args.serial c.in-Some.child c.self.inside.devices.tree.nodes asc c.in-Some.ensures.gone in
    let node = c.node.ensures.node ∙ ap (λ (t : Tree). node_at c.in-Some.child t.nodes) tree ∙ gone.at in
    let none = ap option_copied c.in_default-node.is in
    cc

pub returns-clause-done : goal.returns-clause-done
returns-clause-done g c =
    let s = c.self.inside in
    let tree = c.tree.ensures ∙ ap (λ (d : Devices). d.tree) c.gone_below.ensures.same in
    let asc = subst (λ (t : Tree). Ascends 0 (serials_of t.nodes)) tree c.node.ensures.tree.ascends in
    let gone = gone_at (is_gone_from s.devices.world.devices s.tasks.tasks) c.args.serial c.in-Some.child s.devices.tree.nodes asc (rw c.in_ok-make_room.ensures.tasks at c.in-Some.ensures.gone) in
    let same : c.in-Some-node.node.now ≡ gone.node = let e = c.in-Some-node.ensures.node ∙ ap (λ (t : Tree). node_at c.in-Some.child t.nodes) tree ∙ gone.at in cc in
    let path = c.in_ok-path.ensures ∙ ap (λ (n : Node). n.path) (c.node-2.view_is ∙ same) in
    let tasks = c.append.ensures.tasks ∙ ap (λ l. l ++ task_of (duties.Begin OpKind.Surprise, c.in-Some.child) ∷ []) c.in_ok-make_room.ensures.tasks in
    rw (← c.self.view_is)
    (gone_is _ _ c.args.serial c.in-Some.child c.args.path c.in_ok-path.path gone path
    (ap₂ (λ d l. state_of d (g.R.Drivers.rows s.rack) s.disabled.paths s.starts.works (option_map operation_of s.operation) l) c.gone_below.ensures.same tasks))
