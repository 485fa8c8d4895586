use Rattle.pnp_promises.proofs.Written.{resources_are_written}
use Rattle.pnp_promises.proofs.laws.resources_are_written.Goals as goal

pub returns : goal.returns
returns c = resources_are_written
