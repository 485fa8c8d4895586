use Rattle.std.proofs.Common.{◌∙◌, ap, sym}
use Rattle.pnp_model.specs.Cores.{node_at}
use Rattle.pnp_laws.proofs.Lookups.{found_self}
use Rattle.pnp_machine.specs.Devices.{Devices}
use Rattle.pnp_machine.proofs.devices.Devices.query_of_start.Goals as goal

pub returns-clause-node : goal.returns-clause-node
returns-clause-node c =
    found_self c.serial-2.result c.args.self.now.tree.nodes c.in_ok-node.node.now
    (ap (λ (d : Devices). node_at c.serial-2.result d.tree.nodes) (sym c.self.view_is) ∙ sym c.in_ok-node.ensures.node)
