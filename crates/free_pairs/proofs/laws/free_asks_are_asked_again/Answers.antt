use Rattle.free_pairs.proofs.TwoRuns.{free_asks_are_asked_again}
use Rattle.free_pairs.proofs.laws.free_asks_are_asked_again.Goals as goal

pub returns : goal.returns
returns c = free_asks_are_asked_again
