use Rattle.pnp_pairs.proofs.SameDrivers.{same_device_same_drivers}
use Rattle.pnp_pairs.proofs.laws.same_device_same_drivers.Goals as goal

pub returns : goal.returns
returns c = same_device_same_drivers
