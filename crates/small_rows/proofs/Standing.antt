-- Which places stand in a chain once a value was put in, and when it is gone through.
use Rattle.std.proofs.Common.{◌≡◌, ℕ, zero, suc, Bool, true, false, cond, eqb, List, [], ◌∷◌, length, Option, Some, None, Contains, IfSome, get_or, set, refl, sym, subst, arith}
use Rattle.node_pool.specs.Chains.{Chains, Stands, chain, places, first_of, after_of, inserted_behind, inserted}
use Rattle.node_pool.specs.Places.{place_number}
use Rattle.node_pool.specs.declared.pool.Place.{Place}

module _ {T : Type 0} where
  more : (x : ℕ × T) (xs : List (ℕ × T)) (k : ℕ) → Contains (places xs) k → Contains (places (x ∷ xs)) k
  more x xs k (i, within, is) = (suc i, omega arith, is)

  pub stands_first : (xs : List (ℕ × T)) (k : ℕ) → first_of xs ≡ Some k → Contains (places xs) k
  stands_first [] k e = absurd (grind (arith, e))
  stands_first (x ∷ xs) k e = (zero, omega arith, grind (arith, e))

  pub stands_after : (xs : List (ℕ × T)) (at k : ℕ) → after_of at xs ≡ Some k → Contains (places xs) k
  stands_after [] at k e = absurd (grind (arith, e))
  stands_after (x ∷ xs) at k e = by_test (eqb x.0 at) e (stands_after xs at k)
    where
      by_test : (b : Bool) → cond b (first_of xs) (after_of at xs) ≡ Some k → (after_of at xs ≡ Some k → Contains (places xs) k) → Contains (places (x ∷ xs)) k
      by_test true e below = more x xs k (stands_first xs k e)
      by_test false e below = more x xs k (below e)

  -- what stood stands
  pub stands_still : (at : ℕ) (v : ℕ × T) (xs : List (ℕ × T)) (k : ℕ) → Contains (places xs) k → Contains (places (inserted_behind at v xs)) k
  stands_still at v [] k is = is
  stands_still at v (x ∷ xs) k is = by_test (eqb x.0 at) is (stands_still at v xs k)
    where
      by_test : (b : Bool) → Contains (places (x ∷ xs)) k → (Contains (places xs) k → Contains (places (inserted_behind at v xs)) k)
          → Contains (places (cond b (x ∷ v ∷ xs) (x ∷ inserted_behind at v xs))) k
      by_test true (zero, within, is) below = (zero, omega arith, is)
      by_test true (suc j, within, is) below = (suc (suc j), omega arith, is)
      by_test false (zero, within, is) below = (zero, omega arith, is)
      by_test false (suc j, within, is) below = more x (inserted_behind at v xs) k (below (j, omega arith, is))

  -- what is put in stands
  pub stands_put : (at : ℕ) (v : ℕ × T) (xs : List (ℕ × T)) → Contains (places xs) at → Contains (places (inserted_behind at v xs)) v.0
  stands_put at v [] (i, within, is) = absurd (omega arith)
  stands_put at v (x ∷ xs) is = by_test (eqb x.0 at) refl is (stands_put at v xs)
    where
      by_test : (b : Bool) → eqb x.0 at ≡ b → Contains (places (x ∷ xs)) at → (Contains (places xs) at → Contains (places (inserted_behind at v xs)) v.0)
          → Contains (places (cond b (x ∷ v ∷ xs) (x ∷ inserted_behind at v xs))) v.0
      by_test true h is below = (suc zero, omega arith, refl)
      by_test false h (zero, within, is) below = absurd (grind (arith, h, is))
      by_test false h (suc j, within, is) below = more x (inserted_behind at v xs) v.0 (below (j, omega arith, is))

  -- one chain alone, into which a value is put behind a place or at the front
  put_behind : (at : Option ℕ) (v : ℕ × T) (xs : List (ℕ × T)) → IfSome at (λ k. Contains (places xs) k) → Contains (places (inserted at v xs)) v.0
  put_behind None v xs is = (zero, omega arith, refl)
  put_behind (Some at) v xs is = stands_put at v xs is

  still_behind : (at : Option ℕ) (v : ℕ × T) (xs : List (ℕ × T)) (k : ℕ) → Contains (places xs) k → Contains (places (inserted at v xs)) k
  still_behind None v xs k is = more v xs k is
  still_behind (Some at) v xs k is = stands_still at v xs k is

  the_chain : (cs ds : List (List (ℕ × T))) (ys : List (ℕ × T)) → length cs ≡ 1 → ds ≡ set cs 0 ys → (length ds ≡ 1) × (get_or ds 0 [] ≡ ys)
  the_chain [] ds ys one e = absurd (omega (arith, one))
  the_chain (c ∷ cs) ds ys one e = subst (λ (l : List (List (ℕ × T))). (length l ≡ 1) × (get_or l 0 [] ≡ ys)) (sym e) (one, refl)

  number_stands : (at : Option Place) (u : Chains T) → IfSome at (λ p. Stands u 0 p.node) → IfSome (place_number at) (λ k. Contains (places (chain u 0)) k)
  number_stands None u is = is
  number_stands (Some p) u is = is.1

  pub put_in : (at : Option Place) (v : ℕ × T) (u w : Chains T) → length u.chains ≡ 1 → IfSome at (λ p. Stands u 0 p.node)
      → w.chains ≡ set u.chains 0 (inserted (place_number at) v (chain u 0)) → Stands w 0 v.0
  put_in at v u w one is e =
      let new = the_chain u.chains w.chains (inserted (place_number at) v (chain u 0)) one e in
      (omega (arith, new.0), subst (λ (l : List (ℕ × T)). Contains (places l) v.0) (sym new.1) (put_behind (place_number at) v (chain u 0) (number_stands at u is)))

  pub still_in : (other : Option Place) (at : Option Place) (v : ℕ × T) (u w : Chains T) → length u.chains ≡ 1 → IfSome other (λ p. Stands u 0 p.node)
      → w.chains ≡ set u.chains 0 (inserted (place_number at) v (chain u 0)) → IfSome other (λ p. Stands w 0 p.node)
  still_in None at v u w one is e = is
  still_in (Some p) at v u w one is e =
      let new = the_chain u.chains w.chains (inserted (place_number at) v (chain u 0)) one e in
      (omega (arith, new.0), subst (λ (l : List (ℕ × T)). Contains (places l) p.node) (sym new.1) (still_behind (place_number at) v (chain u 0) p.node is.1))

  -- the place that comes after one
  pub next_in : (at : Option Place) (u : Chains T) (k : ℕ) → length u.chains ≡ 1 → IfSome at (λ p. after_of k (chain u 0) ≡ Some p.node) → IfSome at (λ p. Stands u 0 p.node)
  next_in None u k one is = is
  next_in (Some p) u k one is = (omega (arith, one), stands_after (chain u 0) k p.node is)
