use Rattle.std.proofs.Common.{◌≤◌, take}
use Rattle.std.specs.List.{AllByRecursion}
use Rattle.range_arbiter.specs.Pairs.{Pair}
use Rattle.device_holdings.proofs.rows.have_ends_in_order.Given as goal

abbrev pub invariant-rows : goal.invariant-rows
invariant-rows l = AllByRecursion (λ (p : Pair). p.1.lo ≤ p.1.hi) (take l.row-index l.rows)
