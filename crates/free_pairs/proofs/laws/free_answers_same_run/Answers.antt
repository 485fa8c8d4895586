use Rattle.free_pairs.proofs.TwoRuns.{free_answers_same_run}
use Rattle.free_pairs.proofs.laws.free_answers_same_run.Goals as goal

pub returns : goal.returns
returns c = free_answers_same_run
