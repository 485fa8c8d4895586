-- The place of a byte, found a row at a time.
use Rattle.std.proofs.Common.{◌≡◌, ℕ, ◌+◌, ◌-◌, ◌<◌, ◌≤◌, List, length, get_or, take, drop, Some, None, true, false, ◌==◌, inl, inr, arith, ◌∙◌, sym, ap, cond, nat_lt, length-take, length-drop, get_or-take, get_or-drop}
use Rattle.std.specs.List.{position, position_or_len}
use Rattle.std.proofs.lemmas.Bool.{lt-ltb, eqb-true, cases_lt}
use Rattle.std.proofs.lemmas.Grind.{common_steps}
use Rattle.std.proofs.lemmas.List.Sums.{position_or_len_is, fails_before_first, passes_at_first}
use Rattle.std.proofs.lemmas.List.Quantifiers.{position-Some}
use Rattle.device_ids.proofs.Parts.{Passed}

-- the least place, of the first i, at which such a byte stands, and 64 where there is none
pub record Least (row : List ℕ) (byte i place : ℕ) : Type 0 where
  pub within : place ≤ 64
  pub passed : (k : ℕ) → k < i → k < place → (get_or row k 0 == byte) ≡ false
  pub found : place < 64 → (get_or row place 0 == byte) ≡ true

pub least_is : (row : List ℕ) (byte i place : ℕ) → length row ≡ 64 → 64 ≤ i → Least row byte i place
    → place ≡ position_or_len (λ b. b == byte) row
least_is row byte i place long past h =
    sym (position_or_len_is (λ b. b == byte) row place 0 (omega (arith, h.within, long)) (λ k less. h.passed k (omega (arith, h.within)) less) (λ less. h.found (omega arith)))

-- what stands at a place of a row
in_row : (bytes row : List ℕ) (n k : ℕ) → row ≡ take (n + 64 - n) (drop n bytes) → k < 64 → get_or row k 0 ≡ get_or bytes (n + k) 0
in_row bytes row n k is less = ap (λ (xs : List ℕ). get_or xs k 0) is ∙ get_or-take (n + 64 - n) (drop n bytes) k 0 (omega arith) ∙ get_or-drop n bytes k 0

-- none of the first bytes is such a byte, nor is one of the row after them up to this place
row_passed : (bytes row : List ℕ) (byte n place : ℕ) → row ≡ take (n + 64 - n) (drop n bytes) → place ≤ 64 → place ≤ position_or_len (λ b. b == byte) row
    → Passed bytes byte n → Passed bytes byte (n + place)
row_passed bytes row byte n place is fits none h = record {
  none = λ k less. elim (cases_lt k n) [
    | inl before ↦ h.none k before
    | inr after ↦
        let same : get_or row (k - n) 0 ≡ get_or bytes (n + (k - n)) 0 = in_row bytes row n (k - n) is (omega arith) in
        let here : n + (k - n) ≡ k = omega arith in
        ap (λ (b : ℕ). b == byte) (sym (same ∙ ap (λ (j : ℕ). get_or bytes j 0) here))
        ∙ fails_before_first (λ b. b == byte) row (k - n) 0 (omega arith)
  ];
}

-- a row more in which no such byte stands
pub row_more : (bytes row : List ℕ) (byte n place : ℕ) → row ≡ take (n + 64 - n) (drop n bytes) → place ≡ position_or_len (λ b. b == byte) row → 64 ≤ place
    → Passed bytes byte n → Passed bytes byte (n + 64)
row_more bytes row byte n place is place_is none h = row_passed bytes row byte n 64 is (omega arith) (omega arith) h

-- the first such byte stands here
pub stands : (bytes : List ℕ) (byte n : ℕ) → n < length bytes → Passed bytes byte n → (get_or bytes n 0 == byte) ≡ true
    → Some n ≡ position (λ b. b == byte) bytes
stands bytes byte n within h here =
    let place : position_or_len (λ b. b == byte) bytes ≡ n = position_or_len_is (λ b. b == byte) bytes n 0 (omega arith) h.none (λ _. here) in
    sym (ap (λ (k : ℕ). cond (nat_lt k (length bytes)) (Some k) None) place ∙ ap (λ x. cond x (Some n) None) (lt-ltb n (length bytes) within))

-- it stands in this row
pub row_has : (bytes row : List ℕ) (byte n place : ℕ) → n + 64 ≤ length bytes → row ≡ take (n + 64 - n) (drop n bytes) → place ≡ position_or_len (λ b. b == byte) row
    → place < 64 → Passed bytes byte n → Some (n + place) ≡ position (λ b. b == byte) bytes
row_has bytes row byte n place fits is place_is within h =
    let long : length row ≡ 64 = simp (is, length-take, length-drop) (omega arith) in
    let here : (get_or row place 0 == byte) ≡ true =
    ap (λ (k : ℕ). get_or row k 0 == byte) place_is ∙ passes_at_first (λ b. b == byte) row 0 (omega arith) in
    stands bytes byte (n + place) (omega arith) (row_passed bytes row byte n place is (omega arith) (omega arith) h)
    (ap (λ (b : ℕ). b == byte) (sym (in_row bytes row n place is within)) ∙ here)

-- there is no such byte
pub stands_nowhere : (bytes : List ℕ) (byte n : ℕ) → length bytes ≤ n → Passed bytes byte n → None ≡ position (λ b. b == byte) bytes
stands_nowhere bytes byte n past h =
    let place : position_or_len (λ b. b == byte) bytes ≡ length bytes = position_or_len_is (λ b. b == byte) bytes (length bytes) 0 (omega arith) (λ k less. h.none k (omega arith)) (λ less. absurd (omega arith)) in
    grind (arith, common_steps)

-- what the place of the first such byte says
pub passed_all : (bytes : List ℕ) (byte : ℕ) → None ≡ position (λ b. b == byte) bytes → Passed bytes byte (length bytes)
passed_all bytes byte is =
    let past : length bytes ≤ position_or_len (λ b. b == byte) bytes = grind (arith, common_steps) in
    record { none = λ k less. fails_before_first (λ b. b == byte) bytes k 0 (omega arith) }

-- the first such byte stands here, and none before it
pub record First (bytes : List ℕ) (byte n : ℕ) : Type 0 where
  pub within : n < length bytes
  pub here : get_or bytes n 0 ≡ byte
  pub passed : Passed bytes byte n

pub first_at : (bytes : List ℕ) (byte n : ℕ) → Some n ≡ position (λ b. b == byte) bytes → First bytes byte n
first_at bytes byte n is =
    let (inside, here, before) = position-Some (λ b. b == byte) bytes n 0 (sym is) in
    record { within = inside; here = eqb-true (get_or bytes n 0) byte here; passed = record { none = before } }
