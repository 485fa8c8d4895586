use Rattle.pnp_laws.proofs.OpenHandles.{open_handles_fit}
use Rattle.pnp_laws.proofs.laws.open_handles_fit.Goals as goal

pub returns : goal.returns
returns c = open_handles_fit
