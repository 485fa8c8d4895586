use Rattle.assign_search.proofs.SameAnswers.{answer_same}
use Rattle.assign_search.proofs.laws.order_of_fixed.Goals as goal

pub returns : goal.returns
returns c fixed other movers budget x same is = answer_same fixed other same movers budget x is
