use Rattle.pnp_promises.proofs.Later.{later_is_no_earlier}
use Rattle.pnp_promises.proofs.laws.later_is_no_earlier.Goals as goal

pub returns : goal.returns
returns c = later_is_no_earlier
