use Rattle.std.proofs.Common.{◌≡◌, ◌++◌, length, reverse}
use Rattle.rebalance.proofs.asked.asked.Given as goal

abbrev pub invariant-set : goal.invariant-set
invariant-set l = l.queue ++ reverse l.set.keys ≡ reverse l.initial.set.keys

abbrev pub decreases-set : goal.decreases-set
decreases-set l = length l.set.keys
