-- Sums over lists, and lists over which all sums are the same.
use Rattle.std.proofs.Common.{◌≡◌, ℕ, ◌+◌, Bool, true, false, ◌&&◌, cond, nat_lt, List, [], ◌∷◌, ◌++◌, map, refl, sym, ap, ◌∙◌, arith}
use Rattle.std.specs.List.{sum_by, count_by, filter, list_any}
use Rattle.std.proofs.lemmas.List.Sums.{sum_by-cons, sum_by-append}
use Rattle.std.proofs.lemmas.Bool.Decides.{nat_tests}
use Rattle.pnp_model.specs.Keyed.{those}
use Rattle.relations.specs.Edges.{SameSums}

module _ {X : Type 0} where
  pub those_filter : (p : X → Bool) (xs : List X) → those p xs ≡ filter p xs
  those_filter p [] = refl
  those_filter p (x ∷ xs) = ap (λ l. cond (p x) (x ∷ l) l) (those_filter p xs)

  pub sum_filter : (p : X → Bool) (f : X → ℕ) (xs : List X) → sum_by f (filter p xs) ≡ sum_by (λ x. cond (p x) (f x) 0) xs
  sum_filter p f [] = refl
  sum_filter p f (x ∷ xs) =
      let by_test : (b : Bool) → sum_by f (cond b (x ∷ filter p xs) (filter p xs)) ≡ cond b (f x) 0 + sum_by f (filter p xs) =
      λ b. elim b as (λ b. sum_by f (cond b (x ∷ filter p xs) (filter p xs)) ≡ cond b (f x) 0 + sum_by f (filter p xs)) [
        | true ↦ sum_by-cons f x (filter p xs)
        | false ↦ omega arith
      ] in
      by_test (p x) ∙ (ap (λ n. cond (p x) (f x) 0 + n) (sum_filter p f xs) ∙ sym (sum_by-cons (λ x. cond (p x) (f x) 0) x xs))

  pub any_count : (p : X → Bool) (xs : List X) → list_any p xs ≡ nat_lt 0 (count_by p xs)
  any_count p [] = refl
  any_count p (x ∷ xs) =
      let all = sum_by-cons (λ x. cond (p x) 1 0) x xs in
      let more = any_count p xs in
      rw all (grind (arith, nat_tests))

  pub any_same : (p : X → Bool) (xs ys : List X) → SameSums xs ys → list_any p xs ≡ list_any p ys
  any_same p xs ys h = any_count p xs ∙ (ap (nat_lt 0) (h (λ x. cond (p x) 1 0)) ∙ sym (any_count p ys))

  pub any_filter : (p q : X → Bool) (xs : List X) → list_any p (filter q xs) ≡ list_any (λ x. q x && p x) xs
  any_filter p q [] = refl
  any_filter p q (x ∷ xs) = grind (arith, any_filter p q xs)

  pub any_agree : (p q : X → Bool) (xs : List X) → ((x : X) → p x ≡ q x) → list_any p xs ≡ list_any q xs
  any_agree p q [] h = refl
  any_agree p q (x ∷ xs) h = grind (arith, h x, any_agree p q xs h)

  pub filter_agree : (p q : X → Bool) (xs : List X) → ((x : X) → p x ≡ q x) → filter p xs ≡ filter q xs
  filter_agree p q [] h = refl
  filter_agree p q (x ∷ xs) h = ap (λ b. cond b (x ∷ filter p xs) (filter p xs)) (h x) ∙ ap (λ l. cond (q x) (x ∷ l) l) (filter_agree p q xs h)

  pub same_filter : (p : X → Bool) (xs ys : List X) → SameSums xs ys → SameSums (filter p xs) (filter p ys)
  same_filter p xs ys h f = sum_filter p f xs ∙ (h (λ x. cond (p x) (f x) 0) ∙ sym (sum_filter p f ys))

  pub same_append : (us xs ys : List X) → SameSums xs ys → SameSums (us ++ xs) (us ++ ys)
  same_append us xs ys h f = sum_by-append f us xs ∙ (ap (λ n. sum_by f us + n) (h f) ∙ sym (sum_by-append f us ys))

  pub same_cons : (x : X) (xs ys : List X) → SameSums xs ys → SameSums (x ∷ xs) (x ∷ ys)
  same_cons x xs ys h = same_append (x ∷ []) xs ys h

  -- one more at the end is one more in front
  pub push_front : (x : X) (xs : List X) → SameSums (x ∷ xs) (xs ++ x ∷ [])
  push_front x xs f = sum_by-cons f x xs ∙ (let one = sum_by-cons f x [] in let all = sum_by-append f xs (x ∷ []) in omega arith)

module _ {X Y : Type 0} where
  pub sum_map : (f : Y → ℕ) (g : X → Y) (xs : List X) → sum_by f (map g xs) ≡ sum_by (λ x. f (g x)) xs
  sum_map f g [] = refl
  sum_map f g (x ∷ xs) = sum_by-cons f (g x) (map g xs) ∙ (ap (λ n. f (g x) + n) (sum_map f g xs) ∙ sym (sum_by-cons (λ x. f (g x)) x xs))

  pub same_map : (g : X → Y) (xs ys : List X) → SameSums xs ys → SameSums (map g xs) (map g ys)
  same_map g xs ys h f = sum_map f g xs ∙ (h (λ x. f (g x)) ∙ sym (sum_map f g ys))

  pub filter_map : (p : Y → Bool) (g : X → Y) (xs : List X) → filter p (map g xs) ≡ map g (filter (λ x. p (g x)) xs)
  filter_map p g [] = refl
  filter_map p g (x ∷ xs) =
      let by_test : (b : Bool) → cond b (g x ∷ filter p (map g xs)) (filter p (map g xs)) ≡ map g (cond b (x ∷ filter (λ x. p (g x)) xs) (filter (λ x. p (g x)) xs)) =
      λ b. elim b as (λ b. cond b (g x ∷ filter p (map g xs)) (filter p (map g xs)) ≡ map g (cond b (x ∷ filter (λ x. p (g x)) xs) (filter (λ x. p (g x)) xs))) [
        | true ↦ ap (λ l. g x ∷ l) (filter_map p g xs)
        | false ↦ filter_map p g xs
      ] in
      by_test (p (g x))
