use Rattle.std.proofs.Common.{◌≡◌, length}
use Rattle.pnp_model.specs.Rebalances.{startable}
use Rattle.rebalance.proofs.above.pass_over.Given as goal

abbrev pub invariant-front : goal.invariant-front
invariant-front l = startable l.tree.nodes l.todo ≡ startable l.tree.nodes l.initial.todo

abbrev pub decreases-front : goal.decreases-front
decreases-front l = length l.todo
