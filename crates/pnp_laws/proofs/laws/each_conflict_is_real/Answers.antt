use Rattle.pnp_laws.proofs.RunsConflict.{each_conflict_is_real}
use Rattle.pnp_laws.proofs.laws.each_conflict_is_real.Goals as goal

pub returns : goal.returns
returns c = each_conflict_is_real
