use Rattle.pnp_laws.proofs.DependentsTold.{dependents_are_told}
use Rattle.pnp_laws.proofs.laws.dependents_are_told.Goals as goal

pub returns : goal.returns
returns c = dependents_are_told
