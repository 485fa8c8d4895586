use Rattle.resource_reqs.proofs.Answering.{plan_is}
use Rattle.assign_search.proofs.laws.plan_is_assignment.Goals as goal

pub returns : goal.returns
returns c fixed movers budget plan is = plan_is fixed movers budget plan is
