use Rattle.pnp_laws.proofs.RunsFutile.{futile_restores}
use Rattle.pnp_laws.proofs.laws.futile_restores.Goals as goal

pub returns : goal.returns
returns c = futile_restores
