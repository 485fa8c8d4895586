use Rattle.live_laws.proofs.Nobody.{nobody_asked}
use Rattle.live_laws.proofs.laws.nobody_asked.Goals as goal

pub returns : goal.returns
returns c = nobody_asked
