use Rattle.pnp_promises.proofs.Searches.{searches_keep_the_budget}
use Rattle.pnp_promises.proofs.laws.searches_keep_the_budget.Goals as goal

pub returns : goal.returns
returns c = searches_keep_the_budget
