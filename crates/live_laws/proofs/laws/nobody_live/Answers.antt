use Rattle.live_laws.proofs.Nobody.{nobody_live}
use Rattle.live_laws.proofs.laws.nobody_live.Goals as goal

pub returns : goal.returns
returns c = nobody_live
