use Rattle.std.proofs.Common.{◌≡◌, ℕ, ◌≤◌, length}
use Rattle.ending_tally.specs.Plain.{parent_of}
use Rattle.ending_tally.specs.Nodes.{above_of}
use Rattle.ending_tally.proofs.plain.parent_of.Given as goal

-- what was taken off is the parent of no node that is so deep, or less
abbrev pub invariant-nodes : goal.invariant-nodes
invariant-nodes l = (other : ℕ) → other ≤ l.depth → parent_of other (above_of l.above.items) ≡ parent_of other (above_of l.fn.above.items)

abbrev pub decreases-nodes : goal.decreases-nodes
decreases-nodes l = length l.above.items
