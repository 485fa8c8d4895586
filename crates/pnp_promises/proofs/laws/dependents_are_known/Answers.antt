use Rattle.pnp_promises.proofs.Words.{dependents_are_known}
use Rattle.pnp_promises.proofs.laws.dependents_are_known.Goals as goal

pub returns : goal.returns
returns c = dependents_are_known
