use Rattle.pnp_laws.proofs.RunsConflict.{conflicts_are_real}
use Rattle.pnp_laws.proofs.laws.conflicts_are_real.Goals as goal

pub returns : goal.returns
returns c = conflicts_are_real
