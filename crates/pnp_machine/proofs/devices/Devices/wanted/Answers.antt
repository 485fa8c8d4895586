use Rattle.std.proofs.Common.{sym, subst, IsSome}
use Rattle.pnp_model.specs.Cores.{node_at}
use Rattle.pnp_model.specs.Records.{Node}
use Rattle.pnp_machine.proofs.Joins.{above_there}
use Rattle.pnp_machine.proofs.devices.Devices.wanted.Goals as goal

pub clip-requires : goal.clip-requires
clip-requires c =
    subst (λ (n : Node). IsSome (node_at n.parent c.self.inside.tree.nodes)) (sym c.node.view_is)
    (above_there c.self.inside.tree c.at-node.ensures.tree c.args.serial c.at-node.result.now c.at-node.ensures.node)
