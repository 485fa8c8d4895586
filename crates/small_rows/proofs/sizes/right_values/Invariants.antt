use Rattle.std.proofs.Common.{IfSome}
use Rattle.node_pool.specs.Chains.{Stands}
use Rattle.small_rows.proofs.sizes.right_values.Given as goal

abbrev pub invariant-places : goal.invariant-places
invariant-places l = IfSome l.at (λ p. Stands l.pool 0 p.node)
