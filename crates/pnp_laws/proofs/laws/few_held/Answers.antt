use Rattle.pnp_laws.proofs.RunsHeld.{few_held}
use Rattle.pnp_laws.proofs.laws.few_held.Goals as goal

pub returns : goal.returns
returns c = few_held
