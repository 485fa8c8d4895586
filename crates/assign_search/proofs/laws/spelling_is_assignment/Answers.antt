use Rattle.resource_reqs.proofs.Fitting.{plan_of, spells_one}
use Rattle.assign_search.proofs.laws.spelling_is_assignment.Goals as goal

pub returns-clause-some : goal.returns-clause-some
returns-clause-some c fixed movers a whole = plan_of fixed movers a whole

pub returns-clause-one : goal.returns-clause-one
returns-clause-one c movers a first second p q = spells_one movers a first second p q
