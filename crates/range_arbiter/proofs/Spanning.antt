-- What a span covers, of no pairs, of one, and of two lists together.
use Rattle.std.proofs.Common.{◌≡◌, ℕ, Bool, false, min, max, ◌+◌, ◌<◌, ◌≤◌, ◌⊎◌, inl, inr, List, [], ◌∷◌, ◌++◌, refl, sym, subst, arith}
use native.Mathlib.Decide.{dec_le}
use Rattle.range_arbiter.specs.Pairs.{Pair}
use Rattle.range_arbiter.specs.Orders.{In}
use Rattle.range_arbiter.specs.Spans.{Blocks, IsMet, Covers, NoneShares}
use Rattle.range_arbiter.specs.declared.span.Span.{Span}
use Rattle.range_arbiter.proofs.InOrder.{in_append, in_left, in_right}

pub covers_one : (shared : Bool) (p : Pair) (s : Span) → Blocks shared p.1 → p.1.lo ≤ p.1.hi → s.lo ≡ p.1.lo → s.reach ≡ p.1.hi → Covers shared (p ∷ []) s
covers_one shared p s blocks ordered lo reach = record {
  some = λ q i b. omega arith;
  low = λ q i b. low q i;
  high = λ q i b. high q i;
  met = λ first last some within near long. elim (dec_le p.1.lo first) [
    | yes l ↦ (p, inl refl, blocks, first, l, omega arith, omega arith, omega arith)
    | no l ↦ (p, inl refl, blocks, p.1.lo, omega arith, ordered, omega arith, omega arith)
  ];
}
  where
    low : (q : Pair) → In q (p ∷ []) → s.lo ≤ q.1.lo
    low q (inl e) = subst (λ (z : Pair). s.lo ≤ z.1.lo) (sym e) (omega arith)
    low q (inr i) = absurd i

    high : (q : Pair) → In q (p ∷ []) → q.1.hi ≤ s.reach
    high q (inl e) = subst (λ (z : Pair). z.1.hi ≤ s.reach) (sym e) (omega arith)
    high q (inr i) = absurd i

met_front : (shared : Bool) (xs ys : List Pair) (first last : ℕ) → IsMet shared xs first last → IsMet shared (xs ++ ys) first last
met_front shared xs ys first last (p, i, blocks, n, lo, hi, from, to) = (p, in_left p xs ys i, blocks, n, lo, hi, from, to)

met_back : (shared : Bool) (xs ys : List Pair) (first last : ℕ) → IsMet shared ys first last → IsMet shared (xs ++ ys) first last
met_back shared xs ys first last (p, i, blocks, n, lo, hi, from, to) = (p, in_right p xs ys i, blocks, n, lo, hi, from, to)

pub covers_back : (shared : Bool) (xs ys : List Pair) (a b : Span) → a.reach < a.lo → Covers shared xs a → Covers shared ys b → Covers shared (xs ++ ys) b
covers_back shared xs ys a b none front back = record {
  some = λ p i blocks. back.some p (behind p i blocks) blocks;
  low = λ p i blocks. back.low p (behind p i blocks) blocks;
  high = λ p i blocks. back.high p (behind p i blocks) blocks;
  met = λ first last some within near long. met_back shared xs ys first last (back.met first last some within near long);
}
  where
    behind : (p : Pair) → In p (xs ++ ys) → Blocks shared p.1 → In p ys
    behind p i blocks = elim (in_append p xs ys i) [ inl k ↦ absurd (let some = front.some p k blocks in omega arith) | inr k ↦ k ]

pub covers_front : (shared : Bool) (xs ys : List Pair) (a b : Span) → b.reach < b.lo → Covers shared xs a → Covers shared ys b → Covers shared (xs ++ ys) a
covers_front shared xs ys a b none front back = record {
  some = λ p i blocks. front.some p (before p i blocks) blocks;
  low = λ p i blocks. front.low p (before p i blocks) blocks;
  high = λ p i blocks. front.high p (before p i blocks) blocks;
  met = λ first last some within near long. met_front shared xs ys first last (front.met first last some within near long);
}
  where
    before : (p : Pair) → In p (xs ++ ys) → Blocks shared p.1 → In p xs
    before p i blocks = elim (in_append p xs ys i) [ inl k ↦ k | inr k ↦ absurd (let some = back.some p k blocks in omega arith) ]

-- where none shares, what is known of all is known of those that do not share
pub covers_any : (shared : Bool) (xs : List Pair) (s : Span) → NoneShares xs → Covers false xs s → Covers shared xs s
covers_any shared xs s none covers = record {
  some = λ p i blocks. covers.some p i (λ both. none p i both.0);
  low = λ p i blocks. covers.low p i (λ both. none p i both.0);
  high = λ p i blocks. covers.high p i (λ both. none p i both.0);
  met = λ first last some within near long.
      let (p, i, blocks, n, lo, hi, from, to) = covers.met first last some within near long in
      (p, i, (λ both. none p i both.0), n, lo, hi, from, to);
}

-- how much is free between two spans
abbrev pub Between : Span → Span → ℕ → Type 0
Between a b free = ((a.reach + free + 1 ≡ b.lo) ⊎ (b.reach + free + 1 ≡ a.lo)) ⊎ ((b.lo ≤ a.reach) × (a.lo ≤ b.reach))

pub covers_both : (shared : Bool) (xs ys : List Pair) (a b s : Span) (free : ℕ) → a.lo ≤ a.reach → b.lo ≤ b.reach
    → s.lo ≡ min a.lo b.lo → s.reach ≡ max a.reach b.reach → a.gap ≤ s.gap → b.gap ≤ s.gap → free ≤ s.gap → Between a b free
    → Covers shared xs a → Covers shared ys b → Covers shared (xs ++ ys) s
covers_both shared xs ys a b s free some_a some_b lo reach gap_a gap_b gap between front back = record {
  some = λ p i blocks. omega arith;
  low = λ p i blocks. elim (in_append p xs ys i) [ inl k ↦ (let low = front.low p k blocks in omega arith) | inr k ↦ (let low = back.low p k blocks in omega arith) ];
  high = λ p i blocks. elim (in_append p xs ys i) [ inl k ↦ (let high = front.high p k blocks in omega arith) | inr k ↦ (let high = back.high p k blocks in omega arith) ];
  met = λ first last some within near long. elim (dec_le first a.reach) [
    | yes f ↦ elim (dec_le a.lo last) [
      | yes l ↦ met_front shared xs ys first last (front.met first last some_a f l (omega arith))
      | no l ↦ met_back shared xs ys first last (back.met first last some_b (reached first last near long l) (omega arith) (omega arith))
    ]
    | no f ↦ met_back shared xs ys first last (back.met first last some_b (omega arith) (met_low first last within long f) (omega arith))
  ];
}
  where
    reached : (first last : ℕ) → s.lo ≤ last → s.gap + first ≤ last → (a.lo ≤ last → ⊥) → first ≤ b.reach
    reached first last near long below = elim (dec_le first b.reach) [
      | yes l ↦ l
      | no l ↦ elim between [
        | inl (inl e) ↦ omega arith
        | inl (inr e) ↦ omega arith
        | inr (e, g) ↦ omega arith
      ]
    ]

    met_low : (first last : ℕ) → first ≤ s.reach → s.gap + first ≤ last → (first ≤ a.reach → ⊥) → b.lo ≤ last
    met_low first last within long beyond = elim (dec_le b.lo last) [
      | yes l ↦ l
      | no l ↦ elim between [
        | inl (inl e) ↦ omega arith
        | inl (inr e) ↦ omega arith
        | inr (e, g) ↦ omega arith
      ]
    ]
