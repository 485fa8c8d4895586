use Rattle.pnp_promises.proofs.Words.{paths_name_devices}
use Rattle.pnp_promises.proofs.laws.paths_name_devices.Goals as goal

pub returns : goal.returns
returns c = paths_name_devices
