use Rattle.free_pairs.proofs.TwoRuns.{same_answers_same_run}
use Rattle.free_pairs.proofs.laws.same_answers_same_run.Goals as goal

pub returns : goal.returns
returns c = same_answers_same_run
