use Rattle.pnp_promises.proofs.Ranks.{the_best_is_chosen}
use Rattle.pnp_promises.proofs.laws.the_best_is_chosen.Goals as goal

pub returns : goal.returns
returns c = the_best_is_chosen
