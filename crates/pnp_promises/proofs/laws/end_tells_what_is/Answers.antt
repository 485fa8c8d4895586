use Rattle.pnp_promises.proofs.Endings.{end_tells_what_is}
use Rattle.pnp_promises.proofs.laws.end_tells_what_is.Goals as goal

pub returns : goal.returns
returns c = end_tells_what_is
