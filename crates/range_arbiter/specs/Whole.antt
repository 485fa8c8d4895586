-- What is known at once of all pairs of an arbiter. No public contract cites this.
use Rattle.std.specs.Prelude.{◌≡◌, List, IfSome}
use Rattle.range_arbiter.specs.Pairs.{Pair, pairs_with}
use Rattle.range_arbiter.specs.Known.{Knows}
use Rattle.range_arbiter.specs.declared.whole.Whole.{Whole}

-- it is right of the pairs, and without the pair that was put last so is what was known before
pub record Tells (pairs : List Pair) (w : Whole) : Type 0 where
  pub known : IfSome w.known (λ k. Knows pairs k)
  pub before : IfSome w.last (λ p. (rest : List Pair) → pairs ≡ pairs_with rest p → IfSome w.before (λ k. Knows rest k))
