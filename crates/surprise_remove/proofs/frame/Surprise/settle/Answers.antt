use Rattle.std.proofs.Common.{rules, ◌≡◌, ℕ, ◌==◌, true, Some, ◌∙◌, slice_get, ap, subst, sym}
use Rattle.pnp_model.specs.Frames.{first_node}
use Rattle.pnp_model.specs.Records.{Job}
use Rattle.pnp_model.specs.Cores.{node_at}
use Rattle.operation_frame.specs.Nodes.{HoldsNothing}
use Rattle.operation_frame.proofs.Requests.{stripped_at}
use Rattle.operation_frame.proofs.Queues.{first_is}
use Rattle.surprise_remove.proofs.Moving.{settled_over}
use Rattle.surprise_remove.proofs.frame.Surprise.settle.Goals as goal

pub leave-requires-clause-bare : goal.leave-requires-clause-bare
leave-requires-clause-bare c =
    let nodes = c.args.tree.now.nodes in
    subst (λ (k : ℕ). HoldsNothing (node_at k nodes)) (sym c.in_ok-device.ensures.serial)
    (stripped_at nodes c.args.self.now.todo c.first.result c.at.result.now (sym (ap (λ (r : Job). slice_get r.todo 0) (sym c.self.view_is) ∙ c.first.ensures)) c.at.ensures.node c.requires.settles).1

pub returns-then-in_world-clause-settles : goal.returns-then-in_world-clause-settles
returns-then-in_world-clause-settles c =
    let nodes = c.args.tree.now.nodes in
    let o = c.args.self.now in
    let n = c.at.result.now in
    let head : slice_get o.todo 0 ≡ Some c.first.result = ap (λ (r : Job). slice_get r.todo 0) (sym c.self.view_is) ∙ c.first.ensures in
    let is : first_node nodes o.todo ≡ Some n = first_is nodes o.todo c.first.result head ∙ sym c.at.ensures.node in
    let target : (n.serial == o.target) ≡ true = search rules in
    settled_over nodes o c.args.in_world n is c.in_ok-end_line.field-0 target c.if-in_world.true c.in_ok-end_line.ensures
