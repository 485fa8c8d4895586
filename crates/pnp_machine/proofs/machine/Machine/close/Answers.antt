use Rattle.std.proofs.Common.{◌≡◌, ◌++◌, ◌∷◌, [], not, ◌&&◌, cond, nat_lt, Some, IsSome, sym, ap, subst, ◌∙◌, option_map}
use Rattle.device_ids.specs.Folding.{same}
use Rattle.pnp_labels.specs.declared.label.OpKind.{OpKind}
use Rattle.pnp_model.specs.Cores.{node_at}
use Rattle.pnp_model.specs.Handles.{closed_with}
use Rattle.pnp_model.specs.Records.{Node, State}
use Rattle.pnp_model.specs.States.{node_of}
use Rattle.pnp_model.specs.Tests.{is_surprise_removed}
use Rattle.devnode_tree.specs.Trees.{Tree}
use Rattle.pnp_machine.specs.Operations.{operation_of}
use Rattle.pnp_machine.specs.TaskLists.{task_of}
use Rattle.pnp_machine.specs.declared.tasks.Duty.TheVariants as Duty
use Rattle.pnp_machine.proofs.EventSteps.{is_there}
use Rattle.pnp_machine.proofs.CommandSteps.{closes}
use Rattle.pnp_machine.proofs.machine.Machine.close.Goals as goal

pub own_path-requires : goal.own_path-requires
own_path-requires g c =
    let there = is_there (λ n. same n.path c.args.path.now) c.in-Some.serial c.tree.result.now.nodes c.in-Some.ensures in
    subst (λ (s : State). IsSome (node_at c.in-Some.serial s.core.nodes)) c.self.view_is (subst (λ (t : Tree). IsSome (node_at c.in-Some.serial t.nodes)) c.tree.ensures there)

pub at-requires : goal.at-requires
at-requires g c =
    let there = is_there (λ n. same n.path c.args.path.now) c.in-Some.serial c.tree.result.now.nodes c.in-Some.ensures in
    subst (λ (t : Tree). IsSome (node_at c.in-Some.serial t.nodes)) (c.tree.ensures ∙ sym c.tree-2.ensures) there

pub returns-clause-done : goal.returns-clause-done
returns-clause-done g c =
    let s = c.self.inside in
    let k = c.in-Some.serial in
    let count = c.handles_to-count.result in
    let found = subst (λ (t : Tree). Some k ≡ option_map (λ n. n.serial) (node_of c.args.path.now t.nodes)) c.tree.ensures c.in-Some.ensures in
    let at = subst (λ (t : Tree). Some c.at.result.now ≡ node_at k t.nodes) c.tree-2.ensures c.at.ensures.node in
    let due = c.is_due-due.ensures ∙ ap (λ (n : Node). not (nat_lt 1 count) && is_surprise_removed n.state) c.behind-tree.view_is in
    closes s.devices (g.R.Drivers.rows s.rack) s.disabled.paths s.starts.works (option_map operation_of s.operation) s.tasks.tasks c.args.self.now c.self.view_is
    c.own_path.ensures.order c.args.path.now k found c.at.result.now at count c.if-count-eq0.false c.handles_to-count.ensures.handle c.close.new.self c.finish_if.new.tasks.tasks c.in_ok-path.path
    c.in_ok-path.ensures.path
    (c.close.ensures ∙ ap (λ n. record s.devices { handles = closed_with k s.devices.handles (nat_lt 1 n) }) (sym c.handles_to-count.ensures.count))
    (c.finish_if.ensures ∙ ap (λ ts. cond c.is_due-due.result (ts ++ task_of (Duty.Begin OpKind.Finish, k) ∷ []) ts) c.in_ok-make_room.ensures.tasks
    ∙ ap (λ b. cond b (s.tasks.tasks ++ task_of (Duty.Begin OpKind.Finish, k) ∷ []) s.tasks.tasks) due)
