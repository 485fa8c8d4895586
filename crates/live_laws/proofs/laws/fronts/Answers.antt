use Rattle.live_laws.proofs.Longer.{fronts}
use Rattle.live_laws.proofs.laws.fronts.Goals as goal

pub returns : goal.returns
returns c = fronts
