-- Blocks of pairs, one after another, and the memory for more of them. No public contract cites this.
use Rattle.std.specs.Prelude.{◌≡◌, ◌⊎◌, true, ℕ, false, ◌+◌, ◌<◌, ◌≤◌, List, [], ◌∷◌, ◌++◌, length, take, drop, slice_index_or, Vec, vec_len, vec_capacity}
use Rattle.std.specs.declared.alloc.Global.{Global}
use Rattle.resource_reqs.specs.declared.kind.Kind.TheVariants.{Port}
use Rattle.resource_reqs.specs.declared.owner.Owner.TheVariants.{Reserved}
use Rattle.range_arbiter.specs.Pairs.{Pair, is_before}
use Rattle.range_arbiter.specs.Orders.{In}
use Rattle.range_arbiter.specs.Known.{Knows}
use Rattle.range_arbiter.specs.declared.known.Known.{Known}

-- the pairs of all blocks
abbrev pub pairs_in : List (List Pair) → List Pair
pairs_in [] = []
pairs_in (b ∷ bs) = b ++ pairs_in bs

-- the first pair of a block
abbrev pub first_of : List Pair → Pair
first_of [] = (Reserved, record { kind = Port; lo = 0; hi = 0; shared = false })
first_of (p ∷ ps) = p

-- none of the blocks is empty
abbrev pub AreSome : List (List Pair) → Type 0
AreSome [] = Unit {0}
AreSome (b ∷ bs) = (0 < length b) × AreSome bs

-- All pairs of the blocks behind this one come after the pair, and none of the blocks in front of it; nor does its own first
-- pair, unless it is the first block.
pub record IsPlace (bs : List (List Pair)) (p : Pair) (at : ℕ) : Type 0 where
  pub front : (q : Pair) → In q (pairs_in (take at bs)) → is_before p q ≡ false
  pub back : (q : Pair) → In q (pairs_in (drop (at + 1) bs)) → is_before p q ≡ true
  pub first : (at ≡ 0) ⊎ (is_before p (first_of (slice_index_or bs at [])) ≡ false)

-- what a block keeps: one to 32 pairs, with place for 32, and what is known of them
pub record IsBlock (pairs : Vec Pair Global) (known : Known) : Type 0 where
  pub some : 0 < vec_len pairs
  pub few : vec_len pairs ≤ 32
  pub place : 32 ≤ vec_capacity pairs
  pub spans : Knows pairs.items known
