use Rattle.pnp_laws.proofs.RunsReady.{ready_ones_are_due}
use Rattle.pnp_laws.proofs.laws.ready_ones_are_due.Goals as goal

pub returns : goal.returns
returns c = ready_ones_are_due
