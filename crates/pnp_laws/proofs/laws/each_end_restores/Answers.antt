use Rattle.pnp_laws.proofs.RunsEnds.{each_end_restores}
use Rattle.pnp_laws.proofs.laws.each_end_restores.Goals as goal

pub returns : goal.returns
returns c = each_end_restores
