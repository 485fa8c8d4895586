-- The numbers of all parts are all numbers.
use Rattle.std.proofs.Common.{◌≡◌, refl, sym, ◌∙◌, ap, subst, ℕ, zero, suc, ◌%◌, ◌<◌, ◌≤◌, ◌⊎◌, inl, inr, Bool, true, false, cond, nat_lt, ◌==◌, arith, List, [], ◌∷◌, ◌++◌, append-nil, IsPermutation}
use Rattle.std.specs.List.{filter, flat_map}
use Rattle.std.proofs.lemmas.Bool.{cases_order, eq-eqb}
use Rattle.std.proofs.lemmas.Nat.{mod_below}
use Rattle.std.proofs.lemmas.List.Concat.{flat_map-append}
use Rattle.std.proofs.lemmas.List.Sorted.{IsPermutation-refl, IsPermutation-cons, IsPermutation-trans, IsPermutation-middle, IsPermutation-append_left}
use Rattle.std.proofs.lemmas.Bool.Decides.{nat_tests}
use Rattle.script_family.specs.Laws.{below, part_of}

filter_yes : (p : ℕ → Bool) (x : ℕ) (xs : List ℕ) → p x ≡ true → filter p (x ∷ xs) ≡ x ∷ filter p xs
filter_yes p x xs e = ap (λ b. cond b (x ∷ filter p xs) (filter p xs)) e

filter_no : (p : ℕ → Bool) (x : ℕ) (xs : List ℕ) → p x ≡ false → filter p (x ∷ xs) ≡ filter p xs
filter_no p x xs e = ap (λ b. cond b (x ∷ filter p xs) (filter p xs)) e

same_perm : (a b c d : List ℕ) → a ≡ c → b ≡ d → IsPermutation c d → IsPermutation a b
same_perm a b c d e f h = subst (λ v. IsPermutation v b) (sym e) (subst (λ v. IsPermutation c v) (sym f) h)

-- a number passes one of two tests exactly where it passes a third, and never both
pub record OneOf (p q r : ℕ → Bool) (k : ℕ) : Type 0 where
  pub cases : ((p k ≡ true) × (q k ≡ false) × (r k ≡ true)) ⊎ (((p k ≡ false) × (q k ≡ true) × (r k ≡ true)) ⊎ ((p k ≡ false) × (q k ≡ false) × (r k ≡ false)))

filter_joined : (p q r : ℕ → Bool) → ((k : ℕ) → OneOf p q r k) → (xs : List ℕ) → IsPermutation (filter p xs ++ filter q xs) (filter r xs)
filter_joined p q r one [] = IsPermutation-refl []
filter_joined p q r one (x ∷ xs) =
    let rest : IsPermutation (filter p xs ++ filter q xs) (filter r xs) = filter_joined p q r one xs in
    elim (one x).cases [
      | inl a ↦
          same_perm (filter p (x ∷ xs) ++ filter q (x ∷ xs)) (filter r (x ∷ xs)) (x ∷ (filter p xs ++ filter q xs)) (x ∷ filter r xs)
          (ap (λ v. v ++ filter q (x ∷ xs)) (filter_yes p x xs a.0) ∙ ap (λ v. x ∷ (filter p xs ++ v)) (filter_no q x xs a.1)) (filter_yes r x xs a.2)
          (IsPermutation-cons x (filter p xs ++ filter q xs) (filter r xs) rest)
      | inr b ↦ elim b [
        | inl a ↦
            same_perm (filter p (x ∷ xs) ++ filter q (x ∷ xs)) (filter r (x ∷ xs)) (filter p xs ++ x ∷ filter q xs) (x ∷ filter r xs)
            (ap (λ v. v ++ filter q (x ∷ xs)) (filter_no p x xs a.0) ∙ ap (λ v. filter p xs ++ v) (filter_yes q x xs a.1)) (filter_yes r x xs a.2)
            (IsPermutation-trans (filter p xs ++ x ∷ filter q xs) (x ∷ (filter p xs ++ filter q xs)) (x ∷ filter r xs)
            (IsPermutation-middle (filter p xs) x (filter q xs)) (IsPermutation-cons x (filter p xs ++ filter q xs) (filter r xs) rest))
        | inr a ↦
            same_perm (filter p (x ∷ xs) ++ filter q (x ∷ xs)) (filter r (x ∷ xs)) (filter p xs ++ filter q xs) (filter r xs)
            (ap (λ v. v ++ filter q (x ∷ xs)) (filter_no p x xs a.0) ∙ ap (λ v. filter p xs ++ v) (filter_no q x xs a.1)) (filter_no r x xs a.2) rest
      ]
    ]

lt_true : (a b : ℕ) → a < b → nat_lt a b ≡ true
lt_true a b h = grind (arith, nat_tests)

lt_false : (a b : ℕ) → b ≤ a → nat_lt a b ≡ false
lt_false a b h = grind (arith, nat_tests)

eq_true : (a b : ℕ) → a ≡ b → (a == b) ≡ true
eq_true a b h = eq-eqb a b h

eq_false : (a b : ℕ) → (a ≡ b → ⊥) → (a == b) ≡ false
eq_false a b h = grind (arith, nat_tests)

one_of : (parts m k : ℕ) → OneOf (λ i. nat_lt (i % parts) m) (λ i. i % parts == m) (λ i. nat_lt (i % parts) (suc m)) k
one_of parts m k = record {
  cases = elim (cases_order (k % parts) m) [
    | inl e ↦ inr (inl (lt_false (k % parts) m (omega arith), eq_true (k % parts) m e, lt_true (k % parts) (suc m) (omega arith)))
    | inr h ↦ elim h [
      | inl lt ↦ inl (lt_true (k % parts) m lt, eq_false (k % parts) m (λ e. omega arith), lt_true (k % parts) (suc m) (omega arith))
      | inr gt ↦ inr (inr (lt_false (k % parts) m (omega arith), eq_false (k % parts) m (λ e. omega arith), lt_false (k % parts) (suc m) (omega arith)))
    ]
  ];
}

filter_none : (p : ℕ → Bool) → ((k : ℕ) → p k ≡ false) → (xs : List ℕ) → filter p xs ≡ []
filter_none p fails [] = refl
filter_none p fails (x ∷ xs) = filter_no p x xs (fails x) ∙ filter_none p fails xs

filter_all : (p : ℕ → Bool) → ((k : ℕ) → p k ≡ true) → (xs : List ℕ) → filter p xs ≡ xs
filter_all p holds [] = refl
filter_all p holds (x ∷ xs) = filter_yes p x xs (holds x) ∙ ap (λ v. x ∷ v) (filter_all p holds xs)

-- the first m parts of some numbers
shared : (parts m : ℕ) (xs : List ℕ) → IsPermutation (flat_map (λ part. filter (λ k. k % parts == part) xs) (below m)) (filter (λ k. nat_lt (k % parts) m) xs)
shared parts zero xs =
    subst (λ v. IsPermutation [] v) (sym (filter_none (λ k. nat_lt (k % parts) zero) (λ k. lt_false (k % parts) zero (omega arith)) xs)) (IsPermutation-refl [])
shared parts (suc m) xs =
    let some : List ℕ = flat_map (λ part. filter (λ k. k % parts == part) xs) (below m) in
    let next : List ℕ = filter (λ k. k % parts == m) xs in
    let all : flat_map (λ part. filter (λ k. k % parts == part) xs) (below m ++ m ∷ []) ≡ some ++ next =
    flat_map-append (λ part. filter (λ k. k % parts == part) xs) (below m) (m ∷ []) ∙ ap (λ v. some ++ v) (append-nil next) in
    subst (λ v. IsPermutation v (filter (λ k. nat_lt (k % parts) (suc m)) xs)) (sym all)
    (IsPermutation-trans (some ++ next) (filter (λ k. nat_lt (k % parts) m) xs ++ next) (filter (λ k. nat_lt (k % parts) (suc m)) xs)
    (IsPermutation-append_left next some (filter (λ k. nat_lt (k % parts) m) xs) (shared parts m xs))
    (filter_joined (λ k. nat_lt (k % parts) m) (λ k. k % parts == m) (λ k. nat_lt (k % parts) (suc m)) (one_of parts m) xs))

pub parts_are_all : (parts n : ℕ) → 0 < parts → IsPermutation (flat_map (λ part. part_of parts part n) (below parts)) (below n)
parts_are_all parts n pos =
    subst (λ v. IsPermutation (flat_map (λ part. part_of parts part n) (below parts)) v)
    (filter_all (λ k. nat_lt (k % parts) parts) (λ k. lt_true (k % parts) parts (mod_below k parts pos)) (below n))
    (shared parts parts (below n))
