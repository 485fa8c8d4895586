use Rattle.std.proofs.Common.{◌≡◌, take}
use Rattle.operation_frame.proofs.queue.SerialQueue.of.Given as goal

abbrev pub invariant-loop-at : goal.invariant-loop-at
invariant-loop-at l = l.queue ≡ take l.at l.set
