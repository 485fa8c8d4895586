use Rattle.std.proofs.Common.{◌∙◌, ap}
use Rattle.pnp_model.specs.Records.{Node}
use Rattle.rebalance.proofs.Beginning.{begun_is}
use Rattle.rebalance.proofs.frame.Rebalance.begin_with.Goals as goal

pub returns : goal.returns
returns c =
    begun_is c.args.wanted c.args.tree.now.nodes c.at-node.result.now c.args.serial c.in_ok-path.path c.kind-op.result c.in_ok-rebalance.rebalance c.at-node.ensures.node
    (c.in_ok-path.ensures ∙ ap (λ (n : Node). n.path) c.node.view_is) c.kind-op.ensures c.in_ok-rebalance.ensures
