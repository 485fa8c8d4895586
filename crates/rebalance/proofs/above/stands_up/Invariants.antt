use Rattle.std.proofs.Common.{◌≡◌}
use Rattle.pnp_model.specs.Trees.{stands_up}
use Rattle.rebalance.proofs.above.stands_up.Given as goal

abbrev pub invariant-levels : goal.invariant-levels
invariant-levels l = stands_up l.tree.nodes l.serial ≡ stands_up l.tree.nodes l.at

abbrev pub decreases-levels : goal.decreases-levels
decreases-levels l = l.at
