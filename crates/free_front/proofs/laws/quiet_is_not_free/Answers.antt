use Rattle.free_front.proofs.Nexts.{no_free_step}
use Rattle.free_front.proofs.laws.quiet_is_not_free.Goals as goal

pub returns : goal.returns
returns c = no_free_step
