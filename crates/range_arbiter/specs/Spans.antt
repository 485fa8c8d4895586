-- What is known at once of some pairs. No public contract cites this.
use Rattle.std.specs.Prelude.{ℕ, Bool, IsTrue, ◌+◌, ◌≤◌, List}
use Rattle.resource_reqs.specs.Resources.{Res}
use Rattle.range_arbiter.specs.Pairs.{Pair}
use Rattle.range_arbiter.specs.Orders.{In}
use Rattle.range_arbiter.specs.declared.span.Span.{Span}

-- the resource can stand in the way of a want, which shares or does not
abbrev pub Blocks : Bool → Res → Type 0
Blocks shared res = IsTrue res.shared × IsTrue shared → ⊥

-- none of the pairs shares
abbrev pub NoneShares : List Pair → Type 0
NoneShares pairs = (p : Pair) → In p pairs → IsTrue p.1.shared → ⊥

-- a pair that can stand in the way holds a number from the first to the last of these
abbrev pub IsMet : Bool → List Pair → ℕ → ℕ → Type 0
IsMet shared pairs first last =
    (p : Pair) × In p pairs × Blocks shared p.1 × (n : ℕ) × (p.1.lo ≤ n) × (n ≤ p.1.hi) × (first ≤ n) × (n ≤ last)

-- Of the pairs that can stand in the way: none begins below `lo`, none reaches above `reach`, and whatever has more numbers in
-- a row than `gap` and meets the numbers from `lo` to `reach` meets one of them.
pub record Covers (shared : Bool) (pairs : List Pair) (s : Span) : Type 0 where
  pub some : (p : Pair) → In p pairs → Blocks shared p.1 → s.lo ≤ s.reach
  pub low : (p : Pair) → In p pairs → Blocks shared p.1 → s.lo ≤ p.1.lo
  pub high : (p : Pair) → In p pairs → Blocks shared p.1 → p.1.hi ≤ s.reach
  pub met : (first last : ℕ) → s.lo ≤ s.reach → first ≤ s.reach → s.lo ≤ last → s.gap + first ≤ last → IsMet shared pairs first last
