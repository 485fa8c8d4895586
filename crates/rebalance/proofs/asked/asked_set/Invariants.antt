use Rattle.std.proofs.Common.{take}
use Rattle.rebalance.proofs.Listing.{IsCollected}
use Rattle.rebalance.proofs.asked.asked_set.Given as goal

abbrev pub invariant-order : goal.invariant-order
invariant-order l = IsCollected l.tree.nodes (take l.at l.order) l.set.keys
