use Rattle.free_pairs.proofs.TwoRuns.{same_lines_same_state}
use Rattle.free_pairs.proofs.laws.same_lines_same_state.Goals as goal

pub returns : goal.returns
returns c = same_lines_same_state
