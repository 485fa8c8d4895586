use Rattle.operation_promises.proofs.Below.{stopped_after_all_below}
use Rattle.operation_promises.proofs.laws.stopped_after_all_below.Goals as goal

pub returns : goal.returns
returns c = stopped_after_all_below
