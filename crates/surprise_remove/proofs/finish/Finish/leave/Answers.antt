use Rattle.std.proofs.Common.{ℕ, Option, IfSome, sym, subst}
use Rattle.pnp_model.specs.Cores.{node_at}
use Rattle.pnp_model.specs.Records.{Node}
use Rattle.operation_frame.specs.Nodes.{HoldsNothing, IsStripped}
use Rattle.pnp_laws.proofs.Lookups.{found_self}
use Rattle.surprise_remove.proofs.finish.Finish.leave.Goals as goal

pub leave-requires-clause-bare : goal.leave-requires-clause-bare
leave-requires-clause-bare c =
    let nodes = c.args.tree.now.nodes in
    let node = c.at.result.now in
    let at = sym c.at.ensures.node in
    let two = subst (λ (o : Option Node). IfSome o (IsStripped nodes)) at c.requires.stripped in
    subst (λ (k : ℕ). HoldsNothing (node_at k nodes)) (sym c.in_ok-device.ensures.serial)
    (subst (λ (o : Option Node). HoldsNothing o) (sym (found_self c.args.serial nodes node at)) two.1)
