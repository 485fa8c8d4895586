use Rattle.free_pairs.proofs.TwoRuns.{free_lines_same_state}
use Rattle.free_pairs.proofs.laws.free_lines_same_state.Goals as goal

pub returns : goal.returns
returns c = free_lines_same_state
