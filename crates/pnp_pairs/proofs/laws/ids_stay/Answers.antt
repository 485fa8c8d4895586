use Rattle.pnp_pairs.proofs.SameDrivers.{ids_stay}
use Rattle.pnp_pairs.proofs.laws.ids_stay.Goals as goal

pub returns : goal.returns
returns c = ids_stay
