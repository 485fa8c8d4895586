-- What one pass over few bytes finds: backslashes, the begins of parts, and illegal bytes.
use Rattle.std.proofs.Common.{◌≡◌, ◌≢◌, ℕ, suc, zero, ◌+◌, ◌-◌, ◌<◌, ◌≤◌, List, [], ◌∷◌, ◌++◌, length, drop, replicate, Bool, true, false, arith, refl, ◌∙◌, sym, ap, ◌==◌, ◌&&◌, not, length-append, subst, inl, inr, Some, None, if◌then◌else◌}
use Rattle.std.proofs.Math.ListN.{drop_of_length-le}
use Rattle.std.proofs.lemmas.Bool.{lt-ltb, ltb-true, le-leb, eqb-true, eq-eqb}
use Rattle.std.proofs.lemmas.Bool.Decides.{eqb_tells}
use Rattle.std.proofs.lemmas.List.Splits.{slice_split-cons_yes, slice_split-cons_no}
use Rattle.std.specs.Int.{from_bool}
use Rattle.std.specs.List.{onto_first, list_all}
use Rattle.std.specs.Prelude.{Option}
use Rattle.device_ids.specs.Cuts.{parts}
use Rattle.device_ids.specs.Faults.{path_fault}
use Rattle.device_ids.specs.Ids.{is_id_byte, is_id, is_some_bytes, joined, are_parts, are_ids, has_parts, has_ids}
use Rattle.device_ids.specs.Kept.{padded}
use Rattle.device_ids.specs.declared.error.PathError.{PathError}
use Rattle.device_ids.specs.declared.error.PathError.TheVariants as error
use Rattle.device_ids.proofs.Backslashes.{some_part}

-- how many backslashes there are
abbrev pub backslashes : List ℕ → ℕ
backslashes [] = 0
backslashes (b ∷ bytes) = from_bool (b == 92) + backslashes bytes

-- how many parts begin, where one may begin at the first byte or not
abbrev pub begun : Bool → List ℕ → ℕ
begun begins [] = 0
begun begins (b ∷ bytes) = from_bool (begins && not (b == 92)) + begun (b == 92) bytes

-- how many bytes are none of an identifier
abbrev pub illegal : List ℕ → ℕ
illegal [] = 0
illegal (b ∷ bytes) = from_bool (not (is_id_byte b)) + illegal bytes

-- what the first i bytes have
pub record Scanned (text : List ℕ) (i cuts starts bad : ℕ) (begins : Bool) : Type 0 where
  pub cuts_are : backslashes text ≡ cuts + backslashes (drop i text)
  pub starts_are : begun true text ≡ starts + begun begins (drop i text)
  pub bad_are : illegal text ≡ bad + illegal (drop i text)
  pub cuts_fit : cuts ≤ i
  pub starts_fit : starts ≤ i
  pub bad_fit : bad ≤ i

-- backslashes after bytes begin no part, and are legal
cuts_after : (n : ℕ) → backslashes (replicate n 92) ≡ n
cuts_after zero = refl
cuts_after (suc n) = omega (arith, cuts_after n)

none_begins : (begins : Bool) (n : ℕ) → begun begins (replicate n 92) ≡ 0
none_begins begins zero = refl
none_begins true (suc n) = omega (arith, none_begins true n)
none_begins false (suc n) = omega (arith, none_begins true n)

all_legal : (n : ℕ) → illegal (replicate n 92) ≡ 0
all_legal zero = refl
all_legal (suc n) = omega (arith, all_legal n)

cuts_padded : (bytes : List ℕ) (n : ℕ) → backslashes (bytes ++ replicate n 92) ≡ backslashes bytes + n
cuts_padded [] n = omega (arith, cuts_after n)
cuts_padded (b ∷ bytes) n = omega (arith, cuts_padded bytes n)

begun_padded : (begins : Bool) (bytes : List ℕ) (n : ℕ) → begun begins (bytes ++ replicate n 92) ≡ begun begins bytes
begun_padded begins [] n = none_begins begins n
begun_padded begins (b ∷ bytes) n = ap (λ (m : ℕ). from_bool (begins && not (b == 92)) + m) (begun_padded (b == 92) bytes n)

illegal_padded : (bytes : List ℕ) (n : ℕ) → illegal (bytes ++ replicate n 92) ≡ illegal bytes
illegal_padded [] n = all_legal n
illegal_padded (b ∷ bytes) n = ap (λ (m : ℕ). from_bool (not (is_id_byte b)) + m) (illegal_padded bytes n)

-- how many parts have a byte
abbrev filled : List (List ℕ) → ℕ
filled [] = 0
filled (p ∷ ps) = from_bool (is_some_bytes p) + filled ps

abbrev later : List (List ℕ) → List (List ℕ)
later [] = []
later (p ∷ ps) = ps

-- how many bytes the parts have, each with one after it
abbrev long : List (List ℕ) → ℕ
long [] = 0
long (p ∷ ps) = suc (length p) + long ps

abbrev illegal_in : List (List ℕ) → ℕ
illegal_in [] = 0
illegal_in (p ∷ ps) = illegal p + illegal_in ps

-- what the parts of bytes have
record Parted (bytes : List ℕ) (all : List (List ℕ)) : Type 0 where
  count : length all ≡ suc (backslashes bytes)
  first : begun true bytes ≡ filled all
  rest : begun false bytes ≡ filled (later all)
  lengths : long all ≡ suc (length bytes)
  bad : illegal_in all ≡ illegal bytes

parted_cut : (bytes : List ℕ) (all : List (List ℕ)) → Parted bytes all → Parted (92 ∷ bytes) ([] ∷ all)
parted_cut bytes all h = record {
  count = omega (arith, h.count);
  first = omega (arith, h.first);
  rest = omega (arith, h.first);
  lengths = omega (arith, h.lengths);
  bad = omega (arith, h.bad);
}

one_filled : (b : ℕ) (p : List ℕ) → from_bool (is_some_bytes (b ∷ p)) ≡ 1
one_filled b p = ap from_bool (lt-ltb 0 (suc (length p)) (omega arith))

parted_on : (b : ℕ) (bytes p : List ℕ) (ps : List (List ℕ)) → (b == 92) ≡ false → Parted bytes (p ∷ ps) → Parted (b ∷ bytes) ((b ∷ p) ∷ ps)
parted_on b bytes p ps differs h =
    let cut : backslashes (b ∷ bytes) ≡ 0 + backslashes bytes = ap (λ (x : Bool). from_bool x + backslashes bytes) differs in
    let start : begun true (b ∷ bytes) ≡ 1 + begun false bytes = ap (λ (x : Bool). from_bool (true && not x) + begun x bytes) differs in
    let on : begun false (b ∷ bytes) ≡ 0 + begun false bytes = ap (λ (x : Bool). from_bool (false && not x) + begun x bytes) differs in
    record {
      count = omega (arith, cut, h.count);
      first = omega (arith, start, h.rest, one_filled b p);
      rest = omega (arith, on, h.rest);
      lengths = omega (arith, h.lengths);
      bad = omega (arith, h.bad);
    }

parted : (bytes : List ℕ) → Parted bytes (parts 92 bytes)
parted [] = record { count = refl; first = refl; rest = refl; lengths = refl; bad = refl }
parted (b ∷ bytes) =
    let after : Parted bytes (parts 92 bytes) = parted bytes in
    elim (b == 92) as (λ x. (b == 92) ≡ x → Parted (b ∷ bytes) (parts 92 (b ∷ bytes))) [
      | true ↦ λ same.
          subst (Parted (b ∷ bytes)) (sym (slice_split-cons_yes (λ x. x == 92) b bytes same))
          (subst (λ x. Parted (x ∷ bytes) ([] ∷ parts 92 bytes)) (sym (eqb-true b 92 same)) (parted_cut bytes (parts 92 bytes) after))
      | false ↦ λ differs.
          let (p, ps, is) = some_part 92 bytes in
          subst (Parted (b ∷ bytes)) (sym (slice_split-cons_no (λ x. x == 92) b bytes differs ∙ ap (onto_first b) is))
          (parted_on b bytes p ps differs (subst (Parted bytes) is after))
    ] refl

three : (x y z : Bool) → from_bool x + (from_bool y + (from_bool z + 0)) ≡ 3 → (x ≡ true) × (y ≡ true) × (z ≡ true)
three true true true h = (refl, refl, refl)
three true true false h = absurd (omega arith)
three true false true h = absurd (omega arith)
three true false false h = absurd (omega arith)
three false true true h = absurd (omega arith)
three false true false h = absurd (omega arith)
three false false true h = absurd (omega arith)
three false false false h = absurd (omega arith)

not_three : (x y z : Bool) → from_bool x + (from_bool y + (from_bool z + 0)) ≢ 3 → (x && y && z) ≡ false
not_three true true true h = absurd (h refl)
not_three true true false h = refl
not_three true false z h = refl
not_three false y z h = refl

no_parts : (all : List (List ℕ)) → (length all ≡ 3 → filled all ≢ 3) → are_parts all ≡ false
no_parts [] h = refl
no_parts (a ∷ []) h = refl
no_parts (a ∷ b ∷ []) h = refl
no_parts (a ∷ b ∷ c ∷ []) h = not_three (is_some_bytes a) (is_some_bytes b) (is_some_bytes c) (h refl)
no_parts (a ∷ b ∷ c ∷ d ∷ more) h = refl

not_none : (n : ℕ) → (1 + n == 0) ≡ false
not_none n = elim (eqb_tells (1 + n) 0) [ inl h ↦ absurd (omega (arith, h.1)) | inr h ↦ h.0 ]

both_none : (m n : ℕ) → ((m == 0) && (n == 0)) ≡ (m + n == 0)
both_none m n = elim (eqb_tells m 0) [
  | inl h ↦
      let same : n ≡ m + n = omega (arith, h.1) in
      ap (λ (x : Bool). x && (n == 0)) h.0 ∙ ap (λ (k : ℕ). k == 0) same
  | inr h ↦ ap (λ (x : Bool). x && (n == 0)) h.0 ∙ sym (elim (eqb_tells (m + n) 0) [
    | inl g ↦ absurd (h.1 (omega (arith, g.1)))
    | inr g ↦ g.0
  ])
]

legal_where : (xs : List ℕ) → list_all is_id_byte xs ≡ (illegal xs == 0)
legal_where [] = refl
legal_where (x ∷ xs) =
    let rest : list_all is_id_byte xs ≡ (illegal xs == 0) = legal_where xs in
    let same : illegal xs ≡ 0 + illegal xs = omega arith in
    elim (is_id_byte x) as (λ b. (b && list_all is_id_byte xs) ≡ (from_bool (not b) + illegal xs == 0)) [
      | true ↦ rest ∙ ap (λ (k : ℕ). k == 0) same
      | false ↦ sym (not_none (illegal xs))
    ]

is_id_where : (xs : List ℕ) → 0 < length xs → length xs ≤ 199 → is_id xs ≡ (illegal xs == 0)
is_id_where xs some few = rw (lt-ltb 0 (length xs) some, le-leb (length xs) 199 few) (legal_where xs)

illegal_both : (xs ys : List ℕ) → illegal (xs ++ ys) ≡ illegal xs + illegal ys
illegal_both [] ys = omega arith
illegal_both (x ∷ xs) ys = omega (arith, illegal_both xs ys)

record Three (all : List (List ℕ)) : Type 0 where
  has : are_parts all ≡ true
  sides : are_ids all ≡ (illegal_in all == 0)

three_parts : (all : List (List ℕ)) → length all ≡ 3 → filled all ≡ 3 → long all ≤ 33 → Three all
three_parts [] count full few = absurd (omega arith)
three_parts (a ∷ []) count full few = absurd (omega arith)
three_parts (a ∷ b ∷ []) count full few = absurd (omega arith)
three_parts (a ∷ b ∷ c ∷ []) count full few =
    let (first, second, third) = three (is_some_bytes a) (is_some_bytes b) (is_some_bytes c) full in
    let some : 0 < length c = ltb-true 0 (length c) third in
    let size : length (joined a b) ≡ length a + suc (length b) = length-append a (92 ∷ b) in
    let before : is_id (joined a b) ≡ (illegal (joined a b) == 0) = is_id_where (joined a b) (omega arith) (omega arith) in
    let after : is_id c ≡ (illegal c == 0) = is_id_where c some (omega arith) in
    let sum : illegal (joined a b) + illegal c ≡ illegal a + (illegal b + (illegal c + 0)) = omega (arith, illegal_both a (92 ∷ b)) in
    record {
      has = rw (first, second, third) refl;
      sides = ap (λ (x : Bool). x && is_id c) before ∙ ap (λ (x : Bool). (illegal (joined a b) == 0) && x) after
          ∙ both_none (illegal (joined a b)) (illegal c) ∙ ap (λ (k : ℕ). k == 0) sum;
    }
three_parts (a ∷ b ∷ c ∷ d ∷ more) count full few = absurd (omega arith)

abbrev fault_where : Bool → Bool → Option PathError
fault_where has ids = if has then (if ids then None else Some error.BadId) else Some error.Parts

fault_by : (bytes : List ℕ) (has ids : Bool) → has_parts bytes ≡ has → has_ids bytes ≡ ids → fault_where has ids ≡ path_fault bytes
fault_by bytes has ids has_is ids_is = sym (ap (λ (x : Bool). fault_where x (has_ids bytes)) has_is ∙ ap (fault_where has) ids_is)

-- the first test that fails, by what was found
pub record Found (bytes : List ℕ) (cuts starts bad : ℕ) : Type 0 where
  pub wrong_cuts : cuts + length bytes ≢ 34 → Some error.Parts ≡ path_fault bytes
  pub wrong_starts : starts ≢ 3 → Some error.Parts ≡ path_fault bytes
  pub wrong_byte : cuts + length bytes ≡ 34 → starts ≡ 3 → bad ≢ 0 → Some error.BadId ≡ path_fault bytes
  pub right : cuts + length bytes ≡ 34 → starts ≡ 3 → bad ≡ 0 → None ≡ path_fault bytes

pub found : (bytes text : List ℕ) (i cuts starts bad : ℕ) (begins : Bool) → length bytes ≤ 32 → text ≡ padded bytes → length text ≤ i → Scanned text i cuts starts bad begins
    → Found bytes cuts starts bad
found bytes text i cuts starts bad begins few is past h =
    let end : drop i text ≡ [] = drop_of_length-le text past in
    let cuts_are : cuts ≡ backslashes bytes + (32 - length bytes) =
    omega (arith, h.cuts_are, ap backslashes end, ap backslashes is, cuts_padded bytes (32 - length bytes)) in
    let starts_are : starts ≡ begun true bytes =
    omega (arith, h.starts_are, ap (begun begins) end, ap (begun true) is, begun_padded true bytes (32 - length bytes)) in
    let bad_are : bad ≡ illegal bytes =
    omega (arith, h.bad_are, ap illegal end, ap illegal is, illegal_padded bytes (32 - length bytes)) in
    let p : Parted bytes (parts 92 bytes) = parted bytes in
    let none : (length (parts 92 bytes) ≡ 3 → filled (parts 92 bytes) ≢ 3) → Some error.Parts ≡ path_fault bytes =
    λ (no : length (parts 92 bytes) ≡ 3 → filled (parts 92 bytes) ≢ 3). fault_by bytes false (has_ids bytes) (no_parts (parts 92 bytes) no) refl in
    let all : cuts + length bytes ≡ 34 → starts ≡ 3 → Three (parts 92 bytes) =
    λ (same : cuts + length bytes ≡ 34) (begin : starts ≡ 3). three_parts (parts 92 bytes) (omega (arith, p.count, same)) (omega (arith, p.first, starts_are, begin)) (omega (arith, p.lengths)) in
    record {
      wrong_cuts = λ differs. none (λ same full. differs (omega (arith, p.count, same)));
      wrong_starts = λ differs. none (λ same full. differs (omega (arith, p.first, starts_are, full)));
      wrong_byte = λ same begin illegal. fault_by bytes true false (all same begin).has ((all same begin).sides ∙ elim (eqb_tells (illegal_in (parts 92 bytes)) 0) [
        | inl g ↦ absurd (illegal (omega (arith, p.bad, bad_are, g.1)))
        | inr g ↦ g.0
      ]);
      right = λ same begin legal. fault_by bytes true true (all same begin).has ((all same begin).sides ∙ eq-eqb (illegal_in (parts 92 bytes)) 0 (omega (arith, p.bad, bad_are, legal)));
    }
