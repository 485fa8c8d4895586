-- Pascal's table, row by row.
use Rattle.std.proofs.Common.{◌≡◌, refl, sym, ◌∙◌, ap, subst, ℕ, zero, suc, ◌+◌, ◌-◌, ◌^◌, ◌<◌, inl, inr, min, arith, length, length-append, get_or, List, [], ◌∷◌, ◌++◌}
use Rattle.std.proofs.lemmas.Bool.{cases_lt}
use Rattle.std.proofs.lemmas.List.{get_or_append_left, get_or_push, get_or_past}
use Rattle.script_family.specs.Counts.{ways, capped}
use Rattle.script_family.specs.Tables.{IsWaysRow, IsPascal}
use Rattle.script_family.proofs.Capping.{cap_add}

pub ways_none : (n k : ℕ) → n < k → ways n k ≡ 0
ways_none zero zero lt = absurd (omega arith)
ways_none zero (suc k) lt = refl
ways_none (suc n) zero lt = absurd (omega arith)
ways_none (suc n) (suc k) lt = omega (arith, ways_none n k (omega arith), ways_none n (suc k) (omega arith))

pub ways_one : (n : ℕ) → ways n 0 ≡ 1
ways_one zero = refl
ways_one (suc n) = ways_one n

-- the next number of a row, from the row before it
pub ways_more : (n k : ℕ) → 0 < n → min (capped (ways (n - 1) k) + capped (ways (n - 1) (k + 1))) (2 ^ 64 - 1) ≡ capped (ways n (k + 1))
ways_more zero k pos = absurd (omega arith)
ways_more (suc n) k pos =
    ap (λ m. min (capped (ways m k) + capped (ways m (k + 1))) (2 ^ 64 - 1)) (one_less n)
    ∙ ap (λ m. min (capped (ways n k) + capped (ways n m)) (2 ^ 64 - 1)) (one_more k)
    ∙ cap_add (ways n k) (ways n (suc k)) (2 ^ 64 - 1)
    ∙ ap (λ m. capped (ways (suc n) m)) (sym (one_more k))
  where
    one_less : (n : ℕ) → suc n - 1 ≡ n
    one_less n = omega arith

    one_more : (k : ℕ) → k + 1 ≡ suc k
    one_more k = omega arith

-- a row as far as it has come: the numbers below k
pub record HasWays (n k : ℕ) (row : List ℕ) : Type 0 where
  pub length_is : length row ≡ k
  pub ways_are : (j : ℕ) → j < k → get_or row j 0 ≡ capped (ways n j)

pub first_way : (n : ℕ) (row : List ℕ) → row ≡ [] ++ 1 ∷ [] → HasWays n (0 + 1) row
first_way n row is = record {
  length_is = ap length is;
  ways_are = λ j lt. subst (λ i. get_or row i 0 ≡ capped (ways n i)) (only j lt) (ap (λ r. get_or r 0 0) is ∙ sym (ap capped (ways_one n)));
}
  where
    only : (j : ℕ) → j < 0 + 1 → 0 ≡ j
    only j lt = omega arith

pub next_way : (n k : ℕ) (old new : List ℕ) (v : ℕ) → HasWays n (k + 1) old → new ≡ old ++ v ∷ [] → v ≡ capped (ways n (k + 1)) → HasWays n (k + 1 + 1) new
next_way n k old new v has is value = record {
  length_is = ap length is ∙ length-append old (v ∷ []) ∙ ap (λ m. m + 1) has.length_is;
  ways_are = λ j lt. elim (cases_lt j (k + 1)) [
    | inl below ↦ ap (λ r. get_or r j 0) is ∙ get_or_append_left old (v ∷ []) 0 j (omega (arith, has.length_is)) ∙ has.ways_are j below
    | inr here ↦
        let at : k + 1 ≡ j = omega arith in
        ap (λ r. get_or r j 0) is ∙ get_or_push old v 0 j (has.length_is ∙ at) ∙ value ∙ ap (λ i. capped (ways n i)) at
  ];
}

pub whole_row : (n : ℕ) (row : List ℕ) → HasWays n (n + 1) row → IsWaysRow n row
whole_row n row has k =
    elim (cases_lt k (n + 1)) [
      | inl below ↦ has.ways_are k below
      | inr past ↦ get_or_past row k 0 (omega (arith, has.length_is)) ∙ sym (ap capped (ways_none n k (omega arith)))
    ]

pub pascal_more : (rows : List (List ℕ)) (row : List ℕ) → IsPascal rows → IsWaysRow (length rows) row → IsPascal (rows ++ row ∷ [])
pascal_more rows row all one n lt =
    elim (cases_lt n (length rows)) [
      | inl below ↦ subst (IsWaysRow n) (sym (get_or_append_left rows (row ∷ []) [] n below)) (all n below)
      | inr here ↦
          let at : length rows ≡ n = omega (arith, length-append rows (row ∷ [])) in
          subst (IsWaysRow n) (sym (get_or_push rows row [] n at)) (subst (λ m. IsWaysRow m row) at one)
    ]
