use Rattle.pnp_promises.proofs.Asks.{asks_are_in_order}
use Rattle.pnp_promises.proofs.laws.asks_are_in_order.Goals as goal

pub returns : goal.returns
returns c = asks_are_in_order
