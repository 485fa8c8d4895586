use Rattle.resource_reqs.proofs.Answering.{no_fit_means}
use Rattle.assign_search.proofs.laws.no_fit_is_exact.Goals as goal

pub returns : goal.returns
returns c fixed movers budget = no_fit_means fixed movers budget
