use Rattle.free_pairs.proofs.TwoRuns.{asks_are_asked_again}
use Rattle.free_pairs.proofs.laws.asks_are_asked_again.Goals as goal

pub returns : goal.returns
returns c = asks_are_asked_again
