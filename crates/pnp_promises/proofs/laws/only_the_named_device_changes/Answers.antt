use Rattle.pnp_promises.proofs.Named.{only_the_named_device_changes}
use Rattle.pnp_promises.proofs.laws.only_the_named_device_changes.Goals as goal

pub returns : goal.returns
returns c = only_the_named_device_changes
