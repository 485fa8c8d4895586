use Rattle.operation_promises.proofs.Movers.{operations_move_their_own}
use Rattle.operation_promises.proofs.laws.operations_move_their_own.Goals as goal

pub returns : goal.returns
returns c = operations_move_their_own
