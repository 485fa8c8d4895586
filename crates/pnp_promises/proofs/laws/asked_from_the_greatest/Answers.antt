use Rattle.pnp_promises.proofs.Hears.{asked_from_the_greatest}
use Rattle.pnp_promises.proofs.laws.asked_from_the_greatest.Goals as goal

pub returns : goal.returns
returns c = asked_from_the_greatest
