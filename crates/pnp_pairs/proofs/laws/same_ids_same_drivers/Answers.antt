use Rattle.pnp_pairs.proofs.SameDrivers.{same_ids_same_drivers}
use Rattle.pnp_pairs.proofs.laws.same_ids_same_drivers.Goals as goal

pub returns : goal.returns
returns c = same_ids_same_drivers
