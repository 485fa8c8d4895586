-- Rows of counts: of a line, of two parts, and what a number among two parts is by their families.
use Rattle.std.proofs.Common.{◌≡◌, refl, sym, ◌∙◌, ap, ap₂, subst, ℕ, zero, suc, ◌+◌, ◌-◌, ◌*◌, ◌^◌, ◌<◌, ◌≤◌, inl, inr, min, max, arith, length, get_or, List, [], ◌∷◌, Bool, true, false, mul_comm}
use Rattle.std.proofs.Math.Nat.{min-eq_left}
use Rattle.std.proofs.lemmas.Bool.{cases_lt}
use Rattle.script_family.specs.Families.{Family, Silent, Says, Chosen, most}
use Rattle.script_family.specs.Counts.{sums, count, capped}
use Rattle.script_family.specs.Parts.{row_at, IsRow}
use Rattle.script_family.specs.Pairs.{times}
use Rattle.script_family.specs.Numbered.{paired, together, Numbered}
use Rattle.script_family.proofs.Capping.{cap_three, cap_add, cap_sums}
use Rattle.script_family.proofs.Windows.{sums_zero}
use Rattle.script_family.proofs.Placing.{row_below, row_behind}

capped_zero : (c : ℕ) → 0 ≡ capped c → c ≡ 0
capped_zero c e = omega (arith, e)

-- no script has fewer lines than the row has, or more
pub none_below : (f : Family) (least : ℕ) (row : List ℕ) → IsRow f least row → (n : ℕ) → n < least → count f n ≡ 0
none_below f least row is n lt = capped_zero (count f n) (sym (row_below least row n lt) ∙ is.counts n)

pub none_above : (f : Family) (least : ℕ) (row : List ℕ) → IsRow f least row → (n : ℕ) → most f < n → count f n ≡ 0
none_above f least row is n lt = capped_zero (count f n) (sym (row_behind least row n (omega (arith, is.ends))) ∙ is.counts n)

-- inside a row
pub row_inside : (least : ℕ) (row : List ℕ) (n : ℕ) → least ≤ n → row_at least row n ≡ get_or row (n - least) 0
row_inside least row n le = elim (cases_lt n least) [ inl lt ↦ absurd (omega arith) | inr h ↦ grind (arith, h) ]

-- a row is one of a family if its numbers are, and the family has no scripts else
pub row_from : (f : Family) (least : ℕ) (row : List ℕ) → ((n : ℕ) → least ≤ n → n < least + length row → get_or row (n - least) 0 ≡ capped (count f n))
    → ((n : ℕ) → n < least → count f n ≡ 0) → ((n : ℕ) → least + length row ≤ n → count f n ≡ 0) → (n : ℕ) → row_at least row n ≡ capped (count f n)
row_from f least row inside low high n =
    elim (cases_lt n least) [
      | inl lt ↦ row_below least row n lt ∙ sym (ap capped (low n lt))
      | inr le ↦ elim (cases_lt n (least + length row)) [
        | inl lt ↦ row_inside least row n le ∙ inside n le lt
        | inr past ↦ row_behind least row n past ∙ sym (ap capped (high n past))
      ]
    ]

-- the row of one script of no lines, and of one of one line
pub silent_row : (row : List ℕ) → row ≡ 1 ∷ [] → IsRow Silent 0 row
silent_row row is = subst (IsRow Silent 0) (sym is) (record { counts = at; ends = refl; some = omega arith })
  where
    at : (n : ℕ) → row_at 0 (1 ∷ []) n ≡ capped (count Silent n)
    at zero = refl
    at (suc n) = row_behind 0 (1 ∷ []) (suc n) (omega arith)

pub says_row : (at : ℕ) (row : List ℕ) → row ≡ 1 ∷ [] → IsRow (Says at) 1 row
says_row place row is = subst (IsRow (Says place) 1) (sym is) (record { counts = at; ends = refl; some = omega arith })
  where
    at : (n : ℕ) → row_at 1 (1 ∷ []) n ≡ capped (count (Says place) n)
    at zero = refl
    at (suc zero) = refl
    at (suc (suc n)) = row_behind 1 (1 ∷ []) (suc (suc n)) (omega arith)

-- one of both -----------------------------------------------------------------------------------

pub chosen_row : (a b : Family) (la lb : ℕ) (ra rb row : List ℕ) → IsRow a la ra → IsRow b lb rb
    → length row + min la lb ≡ max (la + length ra) (lb + length rb)
    → ((at : ℕ) → at < length row → get_or row at 0 ≡ min (row_at la ra (min la lb + at) + row_at lb rb (min la lb + at)) (2 ^ 64 - 1))
    → IsRow (Chosen a b) (min la lb) row
chosen_row a b la lb ra rb row isa isb width numbers = record {
  counts = row_from (Chosen a b) (min la lb) row
      (λ n le lt.
      let place : min la lb + (n - min la lb) ≡ n = omega arith in
      numbers (n - min la lb) (omega arith)
      ∙ ap (λ m. min (row_at la ra m + row_at lb rb m) (2 ^ 64 - 1)) place
      ∙ ap₂ (λ u v. min (u + v) (2 ^ 64 - 1)) (isa.counts n) (isb.counts n)
      ∙ cap_add (count a n) (count b n) (2 ^ 64 - 1))
      (λ n lt. omega (arith, none_below a la ra isa n (omega arith), none_below b lb rb isb n (omega arith)))
      (λ n past. omega (arith, none_above a la ra isa n (omega (arith, isa.ends, isb.ends)), none_above b lb rb isb n (omega (arith, isa.ends, isb.ends))));
  ends = omega (arith, isa.ends, isb.ends, width);
  some = omega (arith, isa.some, isb.some, width);
}

-- both ------------------------------------------------------------------------------------------

pub count_paired : (woven : Bool) (a b : Family) (n : ℕ) → count (paired woven a b) n ≡ sums (together a b woven n) (suc n)
count_paired true a b n = refl
count_paired false a b n = refl

pub most_paired : (woven : Bool) (a b : Family) → most (paired woven a b) ≡ most a + most b
most_paired true a b = refl
most_paired false a b = refl

abbrev pub row_term : ℕ → List ℕ → ℕ → List ℕ → Bool → ℕ → ℕ → ℕ
row_term la ra lb rb woven n k = row_at la ra k * row_at lb rb (n - k) * times woven n k

pub same_terms : (a b : Family) (la lb : ℕ) (ra rb : List ℕ) (woven : Bool) → IsRow a la ra → IsRow b lb rb → (n m : ℕ)
    → capped (sums (row_term la ra lb rb woven n) m) ≡ capped (sums (together a b woven n) m)
same_terms a b la lb ra rb woven isa isb n m =
    cap_sums (row_term la ra lb rb woven n) (together a b woven n) (2 ^ 64 - 1)
    (λ k. ap₂ (λ u v. min (u * v * times woven n k) (2 ^ 64 - 1)) (isa.counts k) (isb.counts (n - k))
    ∙ cap_three (count a k) (count b (n - k)) (times woven n k) (2 ^ 64 - 1))
    m

zero_left : (a b t : ℕ) → a ≡ 0 → a * b * t ≡ 0
zero_left a b t e = ap (λ v. v * b * t) e ∙ no b t
  where
    no : (b t : ℕ) → 0 * b * t ≡ 0
    no b t = omega arith

zero_right : (a b t : ℕ) → b ≡ 0 → a * b * t ≡ 0
zero_right a b t e = ap (λ v. a * v * t) e ∙ no a t
  where
    no : (a t : ℕ) → a * 0 * t ≡ 0
    no a t = omega arith

pub none_low : (a b : Family) (la lb : ℕ) (ra rb : List ℕ) (woven : Bool) → IsRow a la ra → IsRow b lb rb → (n : ℕ) → n < la + lb
    → sums (together a b woven n) (suc n) ≡ 0
none_low a b la lb ra rb woven isa isb n lt =
    sums_zero (together a b woven n) (suc n)
    (λ k below. elim (cases_lt k la) [
      | inl low ↦ zero_left (count a k) (count b (n - k)) (times woven n k) (none_below a la ra isa k low)
      | inr high ↦ zero_right (count a k) (count b (n - k)) (times woven n k) (none_below b lb rb isb (n - k) (omega arith))
    ])

pub none_high : (a b : Family) (la lb : ℕ) (ra rb : List ℕ) (woven : Bool) → IsRow a la ra → IsRow b lb rb → (n : ℕ) → most a + most b < n
    → sums (together a b woven n) (suc n) ≡ 0
none_high a b la lb ra rb woven isa isb n lt =
    sums_zero (together a b woven n) (suc n)
    (λ k below. elim (cases_lt (most a) k) [
      | inl high ↦ zero_left (count a k) (count b (n - k)) (times woven n k) (none_above a la ra isa k high)
      | inr low ↦ zero_right (count a k) (count b (n - k)) (times woven n k) (none_above b lb rb isb (n - k) (omega arith))
    ])

pub paired_row : (a b : Family) (la lb : ℕ) (ra rb row : List ℕ) (woven : Bool) → IsRow a la ra → IsRow b lb rb
    → length row + 1 ≡ length ra + length rb
    → ((at : ℕ) → at < length row → get_or row at 0 ≡ capped (sums (row_term la ra lb rb woven (la + lb + at)) (la + lb + at + 1)))
    → IsRow (paired woven a b) (la + lb) row
paired_row a b la lb ra rb row woven isa isb width numbers = record {
  counts = row_from (paired woven a b) (la + lb) row
      (λ n le lt.
      let place : la + lb + (n - (la + lb)) ≡ n = omega arith in
      let next : n + 1 ≡ suc n = omega arith in
      numbers (n - (la + lb)) (omega arith)
      ∙ ap (λ m. capped (sums (row_term la ra lb rb woven m) (m + 1))) place
      ∙ ap (λ m. capped (sums (row_term la ra lb rb woven n) m)) next
      ∙ same_terms a b la lb ra rb woven isa isb n (suc n)
      ∙ ap capped (sym (count_paired woven a b n)))
      (λ n lt. count_paired woven a b n ∙ none_low a b la lb ra rb woven isa isb n lt)
      (λ n past. count_paired woven a b n ∙ none_high a b la lb ra rb woven isa isb n (omega (arith, isa.ends, isb.ends, width)));
  ends = omega (arith, isa.ends, isb.ends, width, most_paired woven a b);
  some = omega (arith, isa.some, isb.some, width);
}

-- The place of a number, by the families -----------------------------------------------------------

uncapped : (a b : ℕ) → capped a ≡ capped b → a < 2 ^ 64 - 1 → a ≡ b
uncapped a b e lt = omega (arith, e)

below_capped : (i c v : ℕ) → v ≡ capped c → i < v → i < c
below_capped i c v e lt = omega (arith, e)

pub there : (a b : Family) (la lb : ℕ) (ra rb : List ℕ) (woven : Bool) → IsRow a la ra → IsRow b lb rb → (n r : ℕ) → r < count (paired woven a b) n → r < 2 ^ 64 - 1
    → r < sums (row_term la ra lb rb woven n) (n + 1)
there a b la lb ra rb woven isa isb n r lt small =
    let next : n + 1 ≡ suc n = omega arith in
    let all : count (paired woven a b) n ≡ sums (together a b woven n) (suc n) = count_paired woven a b n in
    let same : capped (sums (row_term la ra lb rb woven n) (suc n)) ≡ capped (sums (together a b woven n) (suc n)) = same_terms a b la lb ra rb woven isa isb n (suc n) in
    subst (λ m. r < sums (row_term la ra lb rb woven n) m) (sym next) (omega (arith, all, same))

at_least_once : (i y t : ℕ) → 0 < t → y ≤ y * t
at_least_once i y zero pos = absurd (omega arith)
at_least_once i y (suc t) pos = omega (arith, mul_comm y (suc t), more y t)
  where
    more : (y t : ℕ) → y ≤ suc t * y
    more y t = omega arith

none_of_many : (i y t : ℕ) → 2 ^ 64 - 1 ≤ y → 0 < t → i * (y * t) < 2 ^ 64 - 1 → i ≡ 0
none_of_many zero y t le pos lt = refl
none_of_many (suc i) y t le pos lt = absurd (omega (arith, at_least_once i y t pos, one i (y * t)))
  where
    one : (i v : ℕ) → v ≤ suc i * v
    one i v = omega arith

same_product : (i c y t r : ℕ) → y ≡ capped c → 0 < t → i * (y * t) ≤ r → r < 2 ^ 64 - 1 → i * (y * t) ≡ i * (c * t)
same_product i c y t r is pos le small =
    elim (cases_lt c (2 ^ 64 - 1)) [
      | inl lt ↦ ap (λ v. i * (v * t)) (is ∙ min-eq_left (omega arith))
      | inr big ↦
          let none : i ≡ 0 = none_of_many i y t (omega (arith, is)) pos (omega arith) in
          ap (λ v. v * (y * t)) none ∙ nothing (y * t) (c * t) ∙ sym (ap (λ v. v * (c * t)) none)
    ]
  where
    nothing : (u v : ℕ) → 0 * u ≡ 0 * v
    nothing u v = omega arith

small_first : (i y t q r : ℕ) → 0 < y → 0 < t → i * (y * t) + q ≤ r → i ≤ r
small_first i zero t q r a b le = absurd (omega arith)
small_first i (suc y) zero q r a b le = absurd (omega arith)
small_first i (suc y) (suc t) q r a b le = omega (arith, mul_comm i (suc y * suc t), more i (suc y * suc t) (positive y t))
  where
    positive : (y t : ℕ) → 0 < suc y * suc t
    positive y t = omega arith

    more : (i v : ℕ) → 0 < v → i ≤ v * i
    more i zero pos = absurd (omega arith)
    more i (suc v) pos = omega arith

small_second : (j t p r : ℕ) → 0 < t → j * t + p ≤ r → j ≤ r
small_second j zero p r pos le = absurd (omega arith)
small_second j (suc t) p r pos le = omega (arith, mul_comm j (suc t), more j t)
  where
    more : (j t : ℕ) → j ≤ suc t * j
    more j t = omega arith

-- a number by the rows is one by the families
pub numbered : (a b : Family) (la lb : ℕ) (ra rb : List ℕ) (woven : Bool) → IsRow a la ra → IsRow b lb rb → (n r k i j p : ℕ) → r < 2 ^ 64 - 1 → k ≤ n
    → i < row_at la ra k → j < row_at lb rb (n - k) → p < times woven n k
    → sums (row_term la ra lb rb woven n) k + (i * (row_at lb rb (n - k) * times woven n k) + (j * times woven n k + p)) ≡ r
    → Numbered a b woven n r k i j p
numbered a b la lb ra rb woven isa isb n r k i j p small le first second way sum =
    let t_pos : 0 < times woven n k = omega arith in
    let y_pos : 0 < row_at lb rb (n - k) = omega arith in
    let sums_same : sums (row_term la ra lb rb woven n) k ≡ sums (together a b woven n) k =
    uncapped (sums (row_term la ra lb rb woven n) k) (sums (together a b woven n) k) (same_terms a b la lb ra rb woven isa isb n k) (omega arith) in
    let product : i * (row_at lb rb (n - k) * times woven n k) ≡ i * (count b (n - k) * times woven n k) =
    same_product i (count b (n - k)) (row_at lb rb (n - k)) (times woven n k) r (isb.counts (n - k)) t_pos (omega arith) small in
    let i_le : i ≤ r = small_first i (row_at lb rb (n - k)) (times woven n k) (j * times woven n k + p) r y_pos t_pos (omega arith) in
    let j_le : j ≤ r = small_second j (times woven n k) p r t_pos (omega arith) in
    record {
      inside = omega arith;
      first = below_capped i (count a k) (row_at la ra k) (isa.counts k) first;
      second = below_capped j (count b (n - k)) (row_at lb rb (n - k)) (isb.counts (n - k)) second;
      way = way;
      sum = ap₂ (λ u v. u + (v + (j * times woven n k + p))) (sym sums_same) (sym product) ∙ sum;
      first_small = omega arith;
      second_small = omega arith;
      way_small = omega arith;
    }
