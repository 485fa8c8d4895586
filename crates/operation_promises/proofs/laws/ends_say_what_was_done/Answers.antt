use Rattle.operation_promises.proofs.Done.{ends_say_what_was_done}
use Rattle.operation_promises.proofs.laws.ends_say_what_was_done.Goals as goal

pub returns : goal.returns
returns c = ends_say_what_was_done
