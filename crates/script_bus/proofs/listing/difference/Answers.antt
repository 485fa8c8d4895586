use Rattle.std.proofs.Common.{◌∙◌, ap}
use Rattle.pnp_model.specs.Records.{Node}
use Rattle.pnp_model.specs.Tasks.{has_born}
use Rattle.script_bus.proofs.Joining.{born_of_node}
use Rattle.script_bus.proofs.listing.difference.Goals as goal

pub joins_below-requires : goal.joins_below-requires
joins_below-requires c =
    ap (λ (n : Node). has_born n.born c.args.tree.now.nodes) c.node-in-Some.view_is ∙ born_of_node c.args.tree.now.nodes c.args.serial c.in-Some.node.now c.in-Some.ensures.node
