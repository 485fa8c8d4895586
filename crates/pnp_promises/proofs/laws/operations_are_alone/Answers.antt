use Rattle.pnp_promises.proofs.Alone.{operations_are_alone}
use Rattle.pnp_promises.proofs.laws.operations_are_alone.Goals as goal

pub returns : goal.returns
returns c = operations_are_alone
