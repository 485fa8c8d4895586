use Rattle.std.proofs.Common.{◌≡◌, ◌++◌, length, reverse}
use Rattle.rebalance.proofs.queues.reversed.Given as goal

abbrev pub invariant-left : goal.invariant-left
invariant-left l = reverse l.left ++ l.turned ≡ reverse l.queue

abbrev pub decreases-left : goal.decreases-left
decreases-left l = length l.left
