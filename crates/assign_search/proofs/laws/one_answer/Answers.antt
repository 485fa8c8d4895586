use Rattle.resource_reqs.proofs.Answering.{answer_one}
use Rattle.assign_search.proofs.laws.one_answer.Goals as goal

pub returns : goal.returns
returns c fixed movers budget first second a b = answer_one fixed movers budget first second a b
