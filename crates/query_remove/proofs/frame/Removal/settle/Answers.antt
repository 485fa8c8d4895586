use Rattle.std.proofs.Common.{ℕ, ◌∙◌, ◌==◌, ◌&&◌, Some, slice_get, ap, sym, subst}
use Rattle.pnp_model.specs.Cores.{is_node, node_at, with_problem}
use Rattle.pnp_model.specs.Records.{Job}
use Rattle.devnode_tree.specs.Trees.{Tree, CanLeave}
use Rattle.operation_frame.specs.Nodes.{HoldsNothing}
use Rattle.operation_frame.proofs.Queues.{first_is}
use Rattle.operation_frame.proofs.Requests.{stripped_at}
use Rattle.query_remove.specs.Parts.{problem_if}
use Rattle.query_remove.proofs.Moving.{settled_related}
use Rattle.pnp_model.specs.Keyed.{changed_first}
use Rattle.pnp_model.specs.Tests.{has, is_eject}
use Rattle.query_remove.proofs.frame.Removal.settle.Goals as goal

pub leave-requires-clause-bare : goal.leave-requires-clause-bare
leave-requires-clause-bare c =
    let nodes = c.args.tree.now.nodes in
    subst (λ (k : ℕ). HoldsNothing (node_at k nodes)) (sym c.in_ok-device.ensures.serial)
    (stripped_at nodes c.args.self.now.todo c.first.result c.at.result.now (sym (ap (λ (r : Job). slice_get r.todo 0) (sym c.self.view_is) ∙ c.first.ensures)) c.at.ensures.node c.requires.settles).1

pub leave-requires-then-is_eject-clause-may_leave : goal.leave-requires-then-is_eject-clause-may_leave
leave-requires-then-is_eject-clause-may_leave c =
    let nodes = c.args.tree.now.nodes in
    subst (λ (k : ℕ). CanLeave k nodes) (sym c.in_ok-device.ensures.serial)
    (stripped_at nodes c.args.self.now.todo c.first.result c.at.result.now (sym (ap (λ (r : Job). slice_get r.todo 0) (sym c.self.view_is) ∙ c.first.ensures)) c.at.ensures.node c.requires.settles).0

pub leave-requires-then-is_eject-clause-bare : goal.leave-requires-then-is_eject-clause-bare
leave-requires-then-is_eject-clause-bare c =
    let nodes = c.args.tree.now.nodes in
    subst (λ (k : ℕ). HoldsNothing (node_at k nodes)) (sym c.in_ok-device.ensures.serial)
    (stripped_at nodes c.args.self.now.todo c.first.result c.at.result.now (sym (ap (λ (r : Job). slice_get r.todo 0) (sym c.self.view_is) ∙ c.first.ensures)) c.at.ensures.node c.requires.settles).1

pub returns-then-not-is_target-clause-settles : goal.returns-then-not-is_target-clause-settles
returns-then-not-is_target-clause-settles c =
    let nodes = c.args.tree.now.nodes in
    let o = c.args.self.now in
    let node = c.at.result.now in
    let device = c.in_ok-device.device in
    let serial = c.in_ok-device.ensures.serial in
    let at = first_is nodes o.todo c.first.result (ap (λ (r : Job). slice_get r.todo 0) (sym c.self.view_is) ∙ c.first.ensures) ∙ sym c.at.ensures.node in
    let outside = sym (ap (λ (k : ℕ). has o.set k) c.in_ok-device.ensures.parent) ∙ (sym c.removes.ensures ∙ c.if-removes.false) in
    let other = sym (ap (λ (k : ℕ). k == o.target) serial) ∙ (sym c.is_target.ensures ∙ c.if-not-is_target.true) in
    let problem = c.problem_of-problem.ensures ∙ ap (λ (k : ℕ). problem_if (is_eject o.kind && has o.ejecting k)) serial in
    settled_related nodes c.remain.new.tree.nodes o c.go_on-then-not-is_target.new.self node at device.line c.in_ok-device.ensures.line c.go_on-then-not-is_target.ensures outside other c.problem_of-problem.result problem
    (ap (λ (t : Tree). t.nodes) c.remain.ensures.changed ∙ ap (λ (k : ℕ). changed_first (is_node k) (with_problem (Some c.problem_of-problem.result)) nodes) serial)
