use Rattle.pnp_promises.proofs.StopOrder.{stopped_from_the_greatest}
use Rattle.pnp_promises.proofs.laws.stopped_from_the_greatest.Goals as goal

pub returns : goal.returns
returns c = stopped_from_the_greatest
