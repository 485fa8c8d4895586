use Rattle.pnp_promises.proofs.TreeOrder.{tree_stands}
use Rattle.pnp_promises.proofs.laws.tree_stands.Goals as goal

pub returns : goal.returns
returns c = tree_stands
