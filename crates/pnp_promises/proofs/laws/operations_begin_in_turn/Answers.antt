use Rattle.pnp_promises.proofs.Alone.{operations_begin_in_turn}
use Rattle.pnp_promises.proofs.laws.operations_begin_in_turn.Goals as goal

pub returns : goal.returns
returns c = operations_begin_in_turn
