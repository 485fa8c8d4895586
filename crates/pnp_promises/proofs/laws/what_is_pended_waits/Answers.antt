use Rattle.pnp_promises.proofs.Pended.{what_is_pended_waits}
use Rattle.pnp_promises.proofs.laws.what_is_pended_waits.Goals as goal

pub returns : goal.returns
returns c = what_is_pended_waits
