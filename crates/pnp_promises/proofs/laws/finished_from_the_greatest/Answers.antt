use Rattle.pnp_promises.proofs.FinishOrder.{finished_from_the_greatest}
use Rattle.pnp_promises.proofs.laws.finished_from_the_greatest.Goals as goal

pub returns : goal.returns
returns c = finished_from_the_greatest
