use Rattle.pnp_pairs.proofs.OwnSets.{operations_stay_in_their_set}
use Rattle.pnp_pairs.proofs.laws.operations_stay_in_their_set.Goals as goal

pub returns : goal.returns
returns c = operations_stay_in_their_set
