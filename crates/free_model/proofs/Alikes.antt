-- What is done in two states that differ in their books: the trees are one, and so is the leaving order.
use Rattle.std.proofs.Common.{ℕ, zero, suc, ◌≡◌, Bool, List, [], ◌∷◌, length, Option, Some, None, refl, ap, ◌∙◌, if◌then◌else◌}
use Rattle.std.specs.Prelude.{option_map, nat_le, ◌==◌, not, ◌||◌}
use Rattle.std.specs.List.{list_any}
use Rattle.pnp_model.specs.Keyed.{those, without_first}
use Rattle.pnp_model.specs.Tests.{has}
use Rattle.pnp_model.specs.Cores.{set_rack}
use Rattle.pnp_model.specs.Handles.{is_open, ready_device}
use Rattle.pnp_model.specs.Surprises.{stays_behind}
use Rattle.pnp_model.specs.Trees.{grown, closed_in, direct, dependents, set_of, is_free, greatest, leaving_in, leaving}
use Rattle.pnp_model.specs.Records.{Core, Driver, Handle, Job, Found, Doing, SearchProblem, doing_map}
use Rattle.pnp_model.specs.Records.Doing.{Does, Searches}

-- what is done, outright or by a search, in the one and in the other
pub data Alike {A : Type 0} (R : A → A → Type 0) : Option (Doing A) → Option (Doing A) → Type 0 where
  rests : Alike R None None
  does : (x y : A) → R x y → Alike R (Some (Does x)) (Some (Does y))
  searches : (problem : SearchProblem) (f g : Found → A) → ((found : Found) → R (f found) (g found)) → Alike R (Some (Searches problem f)) (Some (Searches problem g))

pub alike_map : {A B : Type 0} (R : A → A → Type 0) (S : B → B → Type 0) (f g : A → B) → ((x y : A) → R x y → S (f x) (g y))
    → {a b : Option (Doing A)} → Alike R a b → Alike S (option_map (doing_map f) a) (option_map (doing_map g) b)
alike_map R S f g lift rests = rests
alike_map R S f g lift (does x y h) = does (f x) (g y) (lift x y h)
alike_map R S f g lift (searches p u v h) =
    searches p (λ found. f (u found)) (λ found. g (v found)) (λ found. lift (u found) (v found) (h found))

-- a move as what is done
abbrev pub done : {A : Type 0} → Option A → Option (Doing A)
done None = None
done (Some a) = Some (Does a)

-- The tree is the same with any rack ------------------------------------------------------

closed_same : (n : ℕ) (c : Core) (rack : List Driver) (set : List ℕ) → closed_in n (set_rack rack c) set ≡ closed_in n c set
closed_same zero c rack set = refl
closed_same (suc n) c rack set =
    ap (λ (t : List ℕ). if nat_le (length (grown c set)) (length set) then set else t) (closed_same n c rack (grown c set))

pub dependents_same : (c : Core) (rack : List Driver) (k : ℕ) → dependents (set_rack rack c) k ≡ dependents c k
dependents_same c rack k = closed_same (length c.nodes) c rack (direct c k)

those_same : {A : Type 0} (f g : A → Bool) (xs : List A) → ((x : A) → f x ≡ g x) → those f xs ≡ those g xs
those_same f g [] e = refl
those_same f g (x ∷ xs) e =
    ap (λ (b : Bool). if b then x ∷ those f xs else those f xs) (e x)
    ∙ ap (λ (t : List _). if g x then x ∷ t else t) (those_same f g xs e)

free_same : (c : Core) (rack : List Driver) (left : List ℕ) (k : ℕ) → is_free (set_rack rack c) left k ≡ is_free c left k
free_same c rack left k = ap (λ (ks : List ℕ). not (list_any (λ j. has left j) ks)) (dependents_same c rack k)

-- the rest of the order, by who leaves first
abbrev rest_of : Core → List ℕ → (List ℕ → List ℕ) → Option ℕ → List ℕ
rest_of c left more o = elim o as (λ _. List ℕ) [ None ↦ [] | Some k ↦ k ∷ more (without_first (λ j. j == k) left) ]

rest_same : (c : Core) (left : List ℕ) (f g : List ℕ → List ℕ) → ((ks : List ℕ) → f ks ≡ g ks) → (o : Option ℕ) → rest_of c left f o ≡ rest_of c left g o
rest_same c left f g e None = refl
rest_same c left f g e (Some k) = ap (λ (t : List ℕ). k ∷ t) (e (without_first (λ j. j == k) left))

leaving_in_same : (n : ℕ) (c : Core) (rack : List Driver) (left : List ℕ) → leaving_in n (set_rack rack c) left ≡ leaving_in n c left
leaving_in_same zero c rack left = refl
leaving_in_same (suc n) c rack left =
    ap (λ (ks : List ℕ). rest_of c left (leaving_in n (set_rack rack c)) (greatest ks)) (those_same (is_free (set_rack rack c) left) (is_free c left) left (free_same c rack left))
    ∙ rest_same c left (leaving_in n (set_rack rack c)) (leaving_in n c) (leaving_in_same n c rack) (greatest (those (is_free c left) left))

pub leaving_same : (c : Core) (rack : List Driver) (k : ℕ) → leaving (set_rack rack c) k ≡ leaving c k
leaving_same c rack k =
    ap (λ (set : List ℕ). leaving_in (length set) (set_rack rack c) set) (closed_same (length c.nodes) c rack (k ∷ []))
    ∙ leaving_in_same (length (set_of c k)) c rack (set_of c k)

pub stays_same : (c : Core) (rack : List Driver) (o : Job) (handles : List Handle) (k : ℕ) → stays_behind (set_rack rack c) o handles k ≡ stays_behind c o handles k
stays_same c rack o handles k =
    ap (λ (ks : List ℕ). has o.told k || (is_open handles k || list_any (λ j. has o.behind j) ks)) (dependents_same c rack k)

pub ready_same : (c : Core) (rack : List Driver) (handles : List Handle) → ready_device (set_rack rack c) handles ≡ ready_device c handles
ready_same c rack handles = refl
