use Rattle.operation_promises.proofs.Removed.{removed_after_all_that_depend}
use Rattle.operation_promises.proofs.laws.removed_after_all_that_depend.Goals as goal

pub returns : goal.returns
returns c = removed_after_all_that_depend
