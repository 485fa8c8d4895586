-- Lists that are renamed member by member: what is found, kept, changed or left out is renamed too.
use Rattle.std.proofs.Common.{ℕ, zero, suc, ◌+◌, ◌≡◌, Bool, true, false, not, cond, List, [], ◌∷◌, map, length, set, slice_get, Option, Some, None, position, refl, ap, ap₂, ◌∙◌, arith}
use Rattle.std.specs.Prelude.{◌||◌, option_map, find}
use Rattle.std.specs.List.{list_any, position_or_len}
use Rattle.pnp_model.specs.Keyed.{changed_first, without_first, those}

-- two tests agree, before and after
abbrev pub Agree : {A B : Type 0} → (A → B) → (A → Bool) → (B → Bool) → Type 0
Agree {A} f p q = (x : A) → q (f x) ≡ p x

pub choose_map : {A B : Type 0} (f : A → B) (b : Bool) (x y : A) (v w : B) → v ≡ f x → w ≡ f y → cond b v w ≡ f (cond b x y)
choose_map f true x y v w e h = e
choose_map f false x y v w e h = h

pub find_map : {A B : Type 0} (f : A → B) (p : A → Bool) (q : B → Bool) → Agree f p q → (xs : List A) → find q (map f xs) ≡ option_map f (find p xs)
find_map f p q e [] = refl
find_map f p q e (x ∷ xs) =
    ap (λ (b : Bool). cond b (Some (f x)) (find q (map f xs))) (e x)
    ∙ choose_map (option_map f) (p x) (Some x) (find p xs) (Some (f x)) (find q (map f xs)) refl (find_map f p q e xs)

pub those_map : {A B : Type 0} (f : A → B) (p : A → Bool) (q : B → Bool) → Agree f p q → (xs : List A) → those q (map f xs) ≡ map f (those p xs)
those_map f p q e [] = refl
those_map f p q e (x ∷ xs) =
    ap (λ (b : Bool). cond b (f x ∷ those q (map f xs)) (those q (map f xs))) (e x)
    ∙ choose_map (map f) (p x) (x ∷ those p xs) (those p xs) (f x ∷ those q (map f xs)) (those q (map f xs))
    (ap (λ t. f x ∷ t) (those_map f p q e xs)) (those_map f p q e xs)

pub any_map : {A B : Type 0} (f : A → B) (p : A → Bool) (q : B → Bool) → Agree f p q → (xs : List A) → list_any q (map f xs) ≡ list_any p xs
any_map f p q e [] = refl
any_map f p q e (x ∷ xs) = ap₂ (λ (a b : Bool). a || b) (e x) (any_map f p q e xs)

pub changed_map : {A B : Type 0} (f : A → B) (p : A → Bool) (q : B → Bool) (g : A → A) (h : B → B) → Agree f p q → ((x : A) → h (f x) ≡ f (g x)) → (xs : List A)
    → changed_first q h (map f xs) ≡ map f (changed_first p g xs)
changed_map f p q g h e same [] = refl
changed_map f p q g h e same (x ∷ xs) =
    ap (λ (b : Bool). cond b (h (f x) ∷ map f xs) (f x ∷ changed_first q h (map f xs))) (e x)
    ∙ choose_map (map f) (p x) (g x ∷ xs) (x ∷ changed_first p g xs) (h (f x) ∷ map f xs) (f x ∷ changed_first q h (map f xs))
    (ap (λ t. t ∷ map f xs) (same x)) (ap (λ t. f x ∷ t) (changed_map f p q g h e same xs))

pub without_map : {A B : Type 0} (f : A → B) (p : A → Bool) (q : B → Bool) → Agree f p q → (xs : List A) → without_first q (map f xs) ≡ map f (without_first p xs)
without_map f p q e [] = refl
without_map f p q e (x ∷ xs) =
    ap (λ (b : Bool). cond b (map f xs) (f x ∷ without_first q (map f xs))) (e x)
    ∙ choose_map (map f) (p x) xs (x ∷ without_first p xs) (map f xs) (f x ∷ without_first q (map f xs)) refl (ap (λ t. f x ∷ t) (without_map f p q e xs))

pub map_map : {A B C : Type 0} (f : A → B) (g : B → C) (h : A → C) → ((x : A) → g (f x) ≡ h x) → (xs : List A) → map g (map f xs) ≡ map h xs
map_map f g h e [] = refl
map_map f g h e (x ∷ xs) = ap₂ (λ y ys. y ∷ ys) (e x) (map_map f g h e xs)

pub count_map : {A B : Type 0} (f : A → B) (xs : List A) → length (map f xs) ≡ length xs
count_map f [] = refl
count_map f (x ∷ xs) = ap suc (count_map f xs)

pub get_map : {A B : Type 0} (f : A → B) (xs : List A) (k : ℕ) → slice_get (map f xs) k ≡ option_map f (slice_get xs k)
get_map f [] k = refl
get_map f (x ∷ xs) zero = refl
get_map f (x ∷ xs) (suc k) = get_map f xs k

pub set_map : {A B : Type 0} (f : A → B) (xs : List A) (k : ℕ) (y : A) → set (map f xs) k (f y) ≡ map f (set xs k y)
set_map f [] k y = refl
set_map f (x ∷ xs) zero y = refl
set_map f (x ∷ xs) (suc k) y = ap (λ t. f x ∷ t) (set_map f xs k y)

place_map : {A B : Type 0} (f : A → B) (p : A → Bool) (q : B → Bool) → Agree f p q → (xs : List A) → position_or_len q (map f xs) ≡ position_or_len p xs
place_map f p q e [] = refl
place_map f p q e (x ∷ xs) = ap₂ (λ (b : Bool) (t : ℕ). cond (not b) (1 + t) 0) (e x) (place_map f p q e xs)

pub position_map : {A B : Type 0} (f : A → B) (p : A → Bool) (q : B → Bool) → Agree f p q → (xs : List A) → position q (map f xs) ≡ position p xs
position_map f p q e xs = grind (arith, place_map f p q e xs, count_map f xs)

pub some_map : {A B : Type 0} (f : A → B) (o : Option A) → Rattle.std.specs.Prelude.is_some (option_map f o) ≡ Rattle.std.specs.Prelude.is_some o
some_map f None = refl
some_map f (Some x) = refl

pub none_map : {A B : Type 0} (f : A → B) (o : Option A) → Rattle.std.specs.Prelude.is_none (option_map f o) ≡ Rattle.std.specs.Prelude.is_none o
none_map f None = refl
none_map f (Some x) = refl
