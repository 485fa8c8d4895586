use Rattle.pnp_promises.proofs.Events.{accepted_is_done}
use Rattle.pnp_promises.proofs.laws.accepted_is_done.Goals as goal

pub returns : goal.returns
returns c = accepted_is_done
