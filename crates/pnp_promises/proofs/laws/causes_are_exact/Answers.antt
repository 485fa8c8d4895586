use Rattle.pnp_promises.proofs.Events.{causes_are_exact}
use Rattle.pnp_promises.proofs.laws.causes_are_exact.Goals as goal

pub returns : goal.returns
returns c = causes_are_exact
