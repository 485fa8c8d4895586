use Rattle.ending_tally.proofs.Turns.{one_tally}
use Rattle.ending_tally.proofs.laws.one_tally.Goals as goal

pub returns : goal.returns
returns c = one_tally
