use Rattle.ending_tally.proofs.Turns.{order_does_not_matter}
use Rattle.ending_tally.proofs.laws.order_does_not_matter.Goals as goal

pub returns : goal.returns
returns c = order_does_not_matter
