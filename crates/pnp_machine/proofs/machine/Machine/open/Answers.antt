use Rattle.std.proofs.Common.{◌≡◌, Some, IsSome, sym, ap, subst, ◌∙◌, option_map}
use Rattle.device_ids.specs.Folding.{same}
use Rattle.pnp_model.specs.Cores.{node_at, serials_of}
use Rattle.pnp_model.specs.Records.{Node, State}
use Rattle.pnp_model.specs.States.{node_of}
use Rattle.pnp_model.specs.Tests.{is_started}
use Rattle.devnode_tree.specs.Trees.{Tree, Ascends}
use Rattle.pnp_machine.specs.Operations.{operation_of}
use Rattle.pnp_machine.proofs.EventSteps.{is_there}
use Rattle.pnp_machine.proofs.CommandSteps.{idle_if, open_down, opens}
use Rattle.pnp_machine.proofs.machine.Machine.open.Goals as goal

pub at-requires : goal.at-requires
at-requires g c =
    let there = is_there (λ n. same n.path c.args.path.now) c.in-Some.serial c.tree.result.now.nodes c.in-Some.ensures in
    subst (λ (t : Tree). IsSome (node_at c.in-Some.serial t.nodes)) (c.tree.ensures ∙ sym c.tree-2.ensures) there

pub returns-then-not-is_started-clause-done : goal.returns-then-not-is_started-clause-done
returns-then-not-is_started-clause-done g c =
    let s = c.self.inside in
    let found = subst (λ (t : Tree). Some c.in-Some.serial ≡ option_map (λ n. n.serial) (node_of c.args.path.now t.nodes)) c.tree.ensures c.in-Some.ensures in
    let order = subst (λ (t : Tree). Ascends 0 (serials_of t.nodes)) c.tree-2.ensures c.at.ensures.tree.ascends in
    let at = subst (λ (t : Tree). Some c.at.result.now ≡ node_at c.in-Some.serial t.nodes) c.tree-2.ensures c.at.ensures.node in
    rw (c.refusal-then-not-is_started.ensures)
    (open_down s.devices (g.R.Drivers.rows s.rack) s.disabled.paths s.starts.works (option_map operation_of s.operation) s.tasks.tasks c.args.self.now c.self.view_is
    (subst (λ (x : State). Ascends 0 (serials_of x.core.nodes)) c.self.view_is order) c.args.path.now c.in-Some.serial found c.at.result.now at
    (idle_if s.operation (sym c.is_some.ensures ∙ c.if-is_some.false)) c.if-serial-eq0.false
    (ap (λ (n : Node). is_started n.state) (sym c.behind-tree.view_is) ∙ sym c.is_started.ensures ∙ c.if-not-is_started.true))

pub returns-clause-done : goal.returns-clause-done
returns-clause-done g c =
    let s = c.self.inside in
    let found = subst (λ (t : Tree). Some c.in-Some.serial ≡ option_map (λ n. n.serial) (node_of c.args.path.now t.nodes)) c.tree.ensures c.in-Some.ensures in
    let at = subst (λ (t : Tree). Some c.at.result.now ≡ node_at c.in-Some.serial t.nodes) c.tree-2.ensures c.at.ensures.node in
    opens s.devices (g.R.Drivers.rows s.rack) s.disabled.paths s.starts.works (option_map operation_of s.operation) s.tasks.tasks c.args.self.now c.self.view_is
    c.own_path.ensures.order c.args.path.now c.in-Some.serial found c.at.result.now at
    (idle_if s.operation (sym c.is_some.ensures ∙ c.if-is_some.false)) c.if-serial-eq0.false c.open.new.self c.in_ok-path.path
    (ap (λ (n : Node). is_started n.state) (sym c.behind-tree.view_is) ∙ sym c.is_started.ensures ∙ c.if-not-is_started.false) c.in_ok-path.ensures.path c.in_ok-open.ensures.opened
