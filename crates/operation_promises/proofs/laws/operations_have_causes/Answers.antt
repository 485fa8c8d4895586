use Rattle.operation_promises.proofs.Causes.{operations_have_causes}
use Rattle.operation_promises.proofs.laws.operations_have_causes.Goals as goal

pub returns : goal.returns
returns c = operations_have_causes
