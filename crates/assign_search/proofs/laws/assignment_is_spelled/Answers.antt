use Rattle.resource_reqs.proofs.Fitting.{spelling_of}
use Rattle.assign_search.proofs.laws.assignment_is_spelled.Goals as goal

pub returns : goal.returns
returns c fixed movers plan is = spelling_of fixed movers plan is
