use Rattle.pnp_pairs.proofs.Parts.{parts_stay_apart}
use Rattle.pnp_pairs.proofs.laws.parts_stay_apart.Goals as goal

pub returns : goal.returns
returns c = parts_stay_apart
