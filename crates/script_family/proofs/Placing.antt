-- Two parts by their rows: the window of numbers of lines, sums over it, and the place of a number.
use Rattle.std.proofs.Common.{◌≡◌, sym, ◌∙◌, ap, ap₂, subst, ℕ, zero, suc, ◌+◌, ◌-◌, ◌*◌, ◌/◌, ◌%◌, ◌^◌, ◌<◌, ◌≤◌, ◌⊎◌, inl, inr, min, max, arith, length, get_or, List, mul_assoc}
use Rattle.std.proofs.lemmas.Bool.{cases_lt}
use Rattle.std.proofs.lemmas.List.{get_or_past}
use Rattle.std.proofs.lemmas.Nat.{div_below, div-add-mod', mod_below}
use Rattle.script_family.specs.Counts.{sums, capped}
use Rattle.script_family.specs.Parts.{row_at}
use Rattle.script_family.specs.declared.pairs.Pair.{Pair}
use Rattle.script_family.specs.declared.pairs.Place.{Place}
use Rattle.script_family.specs.Pairs.{times, count_of, term, IsPlace}
use Rattle.script_family.proofs.Capping.{cap_both, cap_right, cap_div, cap_mod}
use Rattle.script_family.proofs.Windows.{sums_window}

-- a row says nothing before its least number of lines and behind its most
pub row_below : (least : ℕ) (row : List ℕ) (n : ℕ) → n < least → row_at least row n ≡ 0
row_below least row n lt = grind (arith, lt)

pub row_behind : (least : ℕ) (row : List ℕ) (n : ℕ) → least + length row ≤ n → row_at least row n ≡ 0
row_behind least row n le = let past : get_or row (n - least) 0 ≡ 0 = get_or_past row (n - least) 0 (omega arith) in grind (arith, past)

zero_first : (a b t : ℕ) → a ≡ 0 → a * b * t ≡ 0
zero_first a b t e = ap (λ v. v * b * t) e ∙ no b t
  where
    no : (b t : ℕ) → 0 * b * t ≡ 0
    no b t = omega arith

zero_second : (a b t : ℕ) → b ≡ 0 → a * b * t ≡ 0
zero_second a b t e = ap (λ v. a * v * t) e ∙ no a t
  where
    no : (a t : ℕ) → a * 0 * t ≡ 0
    no a t = omega arith

-- no script has so few lines of the first, or so many
pub none_first : (p : Pair) (n k : ℕ) → (k < p.first.now.least) ⊎ (p.first.now.least + length p.first.now.row.items ≤ k) → term p n k ≡ 0
none_first p n k (inl lt) = zero_first (count_of p.first.now k) (count_of p.second.now (n - k)) (times p.woven n k) (row_below p.first.now.least p.first.now.row.items k lt)
none_first p n k (inr le) = zero_first (count_of p.first.now k) (count_of p.second.now (n - k)) (times p.woven n k) (row_behind p.first.now.least p.first.now.row.items k le)

pub none_second : (p : Pair) (n k : ℕ) → (n - k < p.second.now.least) ⊎ (p.second.now.least + length p.second.now.row.items ≤ n - k) → term p n k ≡ 0
none_second p n k (inl lt) = zero_second (count_of p.first.now k) (count_of p.second.now (n - k)) (times p.woven n k) (row_below p.second.now.least p.second.now.row.items (n - k) lt)
none_second p n k (inr le) = zero_second (count_of p.first.now k) (count_of p.second.now (n - k)) (times p.woven n k) (row_behind p.second.now.least p.second.now.row.items (n - k) le)

pub none_before : (p : Pair) (n k start : ℕ) → start ≡ min (max (n + 1 - (p.second.now.least + length p.second.now.row.items)) p.first.now.least) (n + 1) → k < start
    → term p n k ≡ 0
none_before p n k start is lt =
    elim (cases_lt k p.first.now.least) [
      | inl low ↦ none_first p n k (inl low)
      | inr high ↦ none_second p n k (inr (omega arith))
    ]

pub none_behind : (p : Pair) (n k start end : ℕ) → start ≡ min (max (n + 1 - (p.second.now.least + length p.second.now.row.items)) p.first.now.least) (n + 1)
    → end ≡ max (min (n + 1 - p.second.now.least) (p.first.now.least + length p.first.now.row.items)) start → end ≤ k → k < n + 1 → term p n k ≡ 0
none_behind p n k start end begins ends le lt =
    elim (cases_lt k (p.first.now.least + length p.first.now.row.items)) [
      | inl low ↦ none_second p n k (inl (omega arith))
      | inr high ↦ none_first p n k (inr high)
    ]

-- the product of three numbers, whose last is capped before
pub capped_term : (a b t : ℕ) → min (min (a * b) (2 ^ 64 - 1) * capped t) (2 ^ 64 - 1) ≡ capped (a * b * t)
capped_term a b t = cap_both (a * b) t (2 ^ 64 - 1)

-- The place of a number ----------------------------------------------------------------------------

-- at the end of the window nothing is left
pub never_behind : (p : Pair) (n k number rest : ℕ) → k ≤ n + 1 → ((j : ℕ) → k ≤ j → j < n + 1 → term p n j ≡ 0) → number < sums (term p n) (n + 1)
    → sums (term p n) k + rest ≡ number → ⊥
never_behind p n k number rest le none there is =
    let same : sums (term p n) (n + 1) ≡ sums (term p n) k = sums_window (term p n) k (n + 1) le none in omega arith

positive_times : (y t : ℕ) → 0 < y → 0 < t → 0 < y * t
positive_times zero t a b = absurd (omega arith)
positive_times (suc y) t a b = omega (arith, more t y b)
  where
    more : (t y : ℕ) → 0 < t → 0 < suc y * t
    more t y b = omega arith

factor_positive : (x t r : ℕ) → r < x * t → 0 < t
factor_positive x zero r lt = absurd (omega arith)
factor_positive x (suc t) r lt = omega arith

min_positive : (d m : ℕ) → 0 < d → 0 < m → 0 < min d m
min_positive d m a b = omega arith

pub each_positive : (x y t r m : ℕ) → r < x * y * t → 0 < m → 0 < min (y * min t m) m
each_positive x y t r m lt pos =
    let lt' : r < x * (y * t) = subst (λ v. r < v) (mul_assoc x y t) lt in
    subst (λ v. 0 < v) (sym (cap_right y t m)) (min_positive (y * t) m (factor_positive x (y * t) r lt') pos)

pub divided : (x y t r m : ℕ) → r < x * y * t → r < m → 0 < m
    → (r / min (y * min t m) m < x) × ((r % min (y * min t m) m) / min t m < y) × ((r % min (y * min t m) m) % min t m < t)
    × (r / min (y * min t m) m * (y * t) + ((r % min (y * min t m) m) / min t m * t + (r % min (y * min t m) m) % min t m) ≡ r)
divided x y t r m lt small pos =
    let lt' : r < x * (y * t) = subst (λ v. r < v) (mul_assoc x y t) lt in
    let d_pos : 0 < y * t = factor_positive x (y * t) r lt' in
    let t_pos : 0 < t = factor_positive y t 0 d_pos in
    let d_is : min (y * min t m) m ≡ min (y * t) m = cap_right y t m in
    let quotient : r / min (y * min t m) m ≡ r / (y * t) = ap (λ v. r / v) d_is ∙ cap_div r (y * t) m small in
    let among : r % min (y * min t m) m ≡ r % (y * t) = ap (λ v. r % v) d_is ∙ cap_mod r (y * t) m small in
    let among_lt : r % (y * t) < y * t = mod_below r (y * t) d_pos in
    let whole : r / (y * t) * (y * t) + r % (y * t) ≡ r = div-add-mod' r (y * t) in
    let among_small : r % (y * t) < m = omega (arith, whole) in
    let second : (r % min (y * min t m) m) / min t m ≡ (r % (y * t)) / t = ap (λ v. v / min t m) among ∙ cap_div (r % (y * t)) t m among_small in
    let way : (r % min (y * min t m) m) % min t m ≡ (r % (y * t)) % t = ap (λ v. v % min t m) among ∙ cap_mod (r % (y * t)) t m among_small in
    let inner : (r % (y * t)) / t * t + (r % (y * t)) % t ≡ r % (y * t) = div-add-mod' (r % (y * t)) t in (
      subst (λ v. v < x) (sym quotient) (div_below r (y * t) x d_pos lt'),
      subst (λ v. v < y) (sym second) (div_below (r % (y * t)) t y t_pos among_lt),
      subst (λ v. v < t) (sym way) (mod_below (r % (y * t)) t t_pos),
      ap₂ (λ u v. u * (y * t) + v) quotient (ap₂ (λ u v. u * t + v) second way ∙ inner) ∙ whole,
    )

pub place_is : (p : Pair) (n number k rest : ℕ) (place : Place) → k ≤ n → sums (term p n) k + rest ≡ number → rest < term p n k → number < 2 ^ 64 - 1
    → place ≡ record {
      lines = k;
      first = rest / min (count_of p.second.now (n - k) * capped (times p.woven n k)) (2 ^ 64 - 1);
      second = (rest % min (count_of p.second.now (n - k) * capped (times p.woven n k)) (2 ^ 64 - 1)) / capped (times p.woven n k);
      way = (rest % min (count_of p.second.now (n - k) * capped (times p.woven n k)) (2 ^ 64 - 1)) % capped (times p.woven n k);
    }
    → IsPlace p n number place
place_is p n number k rest place le is lt small same =
    let d = divided (count_of p.first.now k) (count_of p.second.now (n - k)) (times p.woven n k) rest (2 ^ 64 - 1) lt (omega arith) (omega arith) in
    subst (IsPlace p n number) (sym same) (record {
      inside = le;
      first = d.0;
      second = d.1;
      way = d.2;
      sum = ap (λ v. sums (term p n) k + v) d.3 ∙ is;
    })
