use Rattle.std.proofs.Common.{◌∙◌, sym}
use Rattle.pnp_model.specs.Cores.{node_at}
use Rattle.pnp_machine.proofs.Dues.{change_begins}
use Rattle.pnp_machine.proofs.machine.Machine.begins.Goals as goal

pub returns-in-Change : goal.returns-in-Change
returns-in-Change g c =
    rw c.in-Change.is (c.can_change.ensures ∙ sym (change_begins c.args.self.now c.args.serial (node_at c.args.serial c.args.self.now.core.nodes)))
