use Rattle.pnp_pairs.proofs.SameDrivers.{choice_hangs_on_ids}
use Rattle.pnp_pairs.proofs.laws.choice_hangs_on_ids.Goals as goal

pub returns : goal.returns
returns c = choice_hangs_on_ids
