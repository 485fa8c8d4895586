-- A filter of a list in another order is a filter of the list, in another order.
use Rattle.std.proofs.Common.{ℕ, zero, suc, ◌<◌, Bool, true, false, cond, List, [], ◌∷◌, length, get_or, set, arith}
use Rattle.std.specs.List.{filter, swap}
use Rattle.std.specs.List.Sorted.{IsPermutation}
use Rattle.std.proofs.lemmas.List.Sorted.{IsPermutation-refl, IsPermutation-trans, IsPermutation-cons, IsPermutation-middle, IsPermutation-keeps}

module _ {X : Type 0} (p : X → Bool) where
  one_more : (x : X) (u v : List X) → IsPermutation u v → IsPermutation (cond (p x) (x ∷ u) u) (cond (p x) (x ∷ v) v)
  one_more x u v h = elim (p x) as (λ b. IsPermutation (cond b (x ∷ u) u) (cond b (x ∷ v) v)) [ true ↦ IsPermutation-cons x u v h | false ↦ h ]

  two_turned : (x y : X) (u : List X) → IsPermutation (cond (p x) (x ∷ cond (p y) (y ∷ u) u) (cond (p y) (y ∷ u) u)) (cond (p y) (y ∷ cond (p x) (x ∷ u) u) (cond (p x) (x ∷ u) u))
  two_turned x y u = turned (p x) (p y)
    where
      turned : (a b : Bool) → IsPermutation (cond a (x ∷ cond b (y ∷ u) u) (cond b (y ∷ u) u)) (cond b (y ∷ cond a (x ∷ u) u) (cond a (x ∷ u) u))
      turned true true = IsPermutation-middle (x ∷ []) y u
      turned true false = IsPermutation-refl _
      turned false true = IsPermutation-refl _
      turned false false = IsPermutation-refl _

  put_first : (xs : List X) (j : ℕ) (x d : X) → j < length xs → IsPermutation (filter p (x ∷ xs)) (filter p (get_or xs j d ∷ set xs j x))
  put_first [] j x d h = absurd (omega (arith, h))
  put_first (y ∷ xs) zero x d h = two_turned x y (filter p xs)
  put_first (y ∷ xs) (suc j) x d h =
      IsPermutation-trans _ _ _ (two_turned x y (filter p xs))
      (IsPermutation-trans _ _ _ (one_more y _ _ (put_first xs j x d (omega (arith, h)))) (two_turned y (get_or xs j d) (filter p (set xs j x))))

  swapped : (xs : List X) (i j : ℕ) (d : X) → i < length xs → j < length xs → IsPermutation (filter p xs) (filter p (set (set xs i (get_or xs j d)) j (get_or xs i d)))
  swapped [] i j d h k = absurd (omega (arith, h))
  swapped (x ∷ xs) zero zero d h k = IsPermutation-refl _
  swapped (x ∷ xs) zero (suc j) d h k = put_first xs j x d (omega (arith, k))
  swapped (x ∷ xs) (suc i) zero d h k = put_first xs i x d (omega (arith, h))
  swapped (x ∷ xs) (suc i) (suc j) d h k = one_more x _ _ (swapped xs i j d (omega (arith, h)) (omega (arith, k)))

  swap_kept : (xs : List X) (i j : ℕ) → i < length xs → j < length xs → IsPermutation (filter p xs) (filter p (swap xs i j))
  swap_kept [] i j h k = absurd (omega (arith, h))
  swap_kept (x ∷ xs) i j h k = swapped (x ∷ xs) i j x h k

  pub IsPermutation-filter : (xs ys : List X) → IsPermutation xs ys → IsPermutation (filter p xs) (filter p ys)
  IsPermutation-filter xs ys h =
      IsPermutation-keeps xs (λ zs. IsPermutation (filter p xs) (filter p zs)) (IsPermutation-refl _)
      (λ l i j a b k. IsPermutation-trans _ _ _ k (swap_kept l i j a b)) ys h
