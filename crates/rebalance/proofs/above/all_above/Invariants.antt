use Rattle.std.proofs.Common.{◌≡◌, ◌||◌, ℕ}
use Rattle.pnp_model.specs.Tests.{has}
use Rattle.pnp_model.specs.Trees.{above}
use Rattle.rebalance.proofs.above.all_above.Given as goal

abbrev pub invariant-levels : goal.invariant-levels
invariant-levels l = (k : ℕ) → (has l.set k || has (above l.tree.nodes l.at) k) ≡ has (above l.tree.nodes l.serial) k

abbrev pub decreases-levels : goal.decreases-levels
decreases-levels l = l.at
