use Rattle.notify_front.proofs.FrontRuns.{reached_fits}
use Rattle.notify_front.proofs.front.Front.is_quiet.Goals as goal

pub is_quiet-requires : goal.is_quiet-requires
is_quiet-requires g c = reached_fits c.self.inside.desk c.self.invariant
