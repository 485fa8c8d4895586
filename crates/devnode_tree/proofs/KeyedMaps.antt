-- Keyed lists seen through a function.
use Rattle.std.proofs.Common.{◌≡◌, ℕ, ◌+◌, Bool, cond, not, ◌||◌, nat_lt, List, [], ◌∷◌, map, position, Option, Some, None, refl, sym, ap, ap₂, arith, option_map}
use Rattle.std.specs.List.{prefix_len, find, list_any}
use Rattle.std.proofs.lemmas.List.{length-map}
use Rattle.pnp_model.specs.Keyed.{changed_first, without_first}

module _ {X Y : Type 0} (p : Y → Bool) (f : X → Y) where
  prefix_len-map : (xs : List X) → prefix_len (λ x. p (f x)) xs ≡ prefix_len p (map f xs)
  prefix_len-map [] = refl
  prefix_len-map (x ∷ xs) = ap (λ n. cond (p (f x)) (1 + n) 0) (prefix_len-map xs)

  pub find-map : (xs : List X) → find p (map f xs) ≡ option_map f (find (λ x. p (f x)) xs)
  find-map [] = refl
  find-map (x ∷ xs) = grind (arith, find-map xs)

  -- a change of the first one that passes, seen through f
  pub map-changed_first : (g : X → X) (h : Y → Y) → ((x : X) → f (g x) ≡ h (f x)) → (xs : List X)
      → map f (changed_first (λ x. p (f x)) g xs) ≡ changed_first p h (map f xs)
  map-changed_first g h e [] = refl
  map-changed_first g h e (x ∷ xs) = grind (arith, e x, map-changed_first g h e xs)

  pub map-without_first : (xs : List X) → map f (without_first (λ x. p (f x)) xs) ≡ without_first p (map f xs)
  map-without_first [] = refl
  map-without_first (x ∷ xs) = grind (arith, map-without_first xs)

-- a length that is less than that of the list, as a place
place_within : ℕ → ℕ → Option ℕ
place_within n len = cond (nat_lt n len) (Some n) None

pub position-map : {X Y : Type 0} (p : Y → Bool) (f : X → Y) (xs : List X) → position (λ x. p (f x)) xs ≡ position p (map f xs)
unfolding place_within
position-map p f xs = ap₂ place_within (prefix_len-map (λ y. not (p y)) f xs) (sym (length-map xs f))

-- a change that the function does not see
pub map-changed_same : {X Y : Type 0} (test : X → Bool) (f : X → Y) (g : X → X) → ((x : X) → f (g x) ≡ f x) → (xs : List X)
    → map f (changed_first test g xs) ≡ map f xs
map-changed_same test f g e [] = refl
map-changed_same test f g e (x ∷ xs) = grind (arith, e x, map-changed_same test f g e xs)

pub map-twice : {X Y Z : Type 0} (g : Y → Z) (f : X → Y) (xs : List X) → map g (map f xs) ≡ map (λ x. g (f x)) xs
map-twice g f [] = refl
map-twice g f (x ∷ xs) = ap (λ l. g (f x) ∷ l) (map-twice g f xs)

pub list_any-map : {X Y : Type 0} (p : Y → Bool) (f : X → Y) (xs : List X) → list_any (λ x. p (f x)) xs ≡ list_any p (map f xs)
list_any-map p f [] = refl
list_any-map p f (x ∷ xs) = ap (λ b. p (f x) || b) (list_any-map p f xs)
