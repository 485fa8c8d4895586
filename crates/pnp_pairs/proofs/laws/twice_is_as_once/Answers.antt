use Rattle.pnp_pairs.proofs.TwiceAsOnce.{twice_is_as_once}
use Rattle.pnp_pairs.proofs.laws.twice_is_as_once.Goals as goal

pub returns : goal.returns
returns c = twice_is_as_once
