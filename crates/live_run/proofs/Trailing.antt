-- What the trail of a run has, found by its place.
use Rattle.std.proofs.Common.{arith, ℕ, suc, ◌≡◌, length, Bool, true, false, List, [], ◌∷◌, Option, Some, None, get_or, map, refl, sym, ap, ◌∙◌, subst}
use Rattle.std.specs.Prelude.{◌==◌, cond, if◌then◌else◌, not, option_map}
use Rattle.std.specs.List.{filter, find, position}
use Rattle.std.proofs.lemmas.Bool.Decides.{nat_tests}
use Rattle.pnp_model.proofs.Keyed.{find_from_none, find_from_position}
use Rattle.pnp_model.specs.Keyed.{without_first}
use Rattle.pnp_labels.specs.Texts.{Text}
use Rattle.pnp_labels.specs.declared.words.Minor.{Minor}
use Rattle.live_model.specs.Trails as trails
use Rattle.live_model.specs.Trails.{is_request}
use Rattle.live_run.specs.Views.{IfWaits, waiting_of}
use Rattle.live_run.specs.declared.trail.Waiting.{Waiting}

seen_here : {A B : Type 0} (f : A → B) (x : A) (b : Bool) (o : Option B) (p : Option A) → o ≡ option_map f p → cond b (Some (f x)) o ≡ option_map f (cond b (Some x) p)
seen_here f x true o p is = refl
seen_here f x false o p is = is

-- what is found of the views is the view of what is found
pub find_seen : {A B : Type 0} (f : A → B) (p : B → Bool) (xs : List A) → find p (map f xs) ≡ option_map f (find (λ x. p (f x)) xs)
find_seen f p [] = refl
find_seen f p (x ∷ xs) = seen_here f x (p (f x)) (find p (map f xs)) (find (λ y. p (f y)) xs) (find_seen f p xs)

pub no_request : (path : Text) (minor : Minor) (ws : List Waiting) → position (λ w. is_request path minor (waiting_of w)) ws ≡ None → find (is_request path minor) (map waiting_of ws) ≡ None
no_request path minor ws none = find_seen waiting_of (is_request path minor) ws ∙ ap (option_map waiting_of) (find_from_none (λ w. is_request path minor (waiting_of w)) ws none)

pub request_found : (path : Text) (minor : Minor) (ws : List Waiting) (i : ℕ) (w : Waiting) → position (λ w. is_request path minor (waiting_of w)) ws ≡ Some i → w ≡ get_or ws i w → find (is_request path minor) (map waiting_of ws) ≡ Some (waiting_of w)
request_found path minor ws i w at is =
    find_seen waiting_of (is_request path minor) ws
    ∙ ap (option_map waiting_of) (find_from_position (λ w. is_request path minor (waiting_of w)) ws i w at)
    ∙ ap (λ (x : Waiting). Some (waiting_of x)) (sym is)

kept_here : {A : Type 0} (b : Bool) (x : A) (xs ys : List A) (o : Option A) → cond b (Some x) o ≡ None → (o ≡ None → xs ≡ ys) → x ∷ xs ≡ (if b then xs else x ∷ ys)
kept_here true x xs ys o none rest = absurd (cc)
kept_here false x xs ys o none rest = ap (λ zs. x ∷ zs) (rest none)

-- where none passes all stay
pub kept_all : {A : Type 0} (test : A → Bool) (xs : List A) → find test xs ≡ None → xs ≡ without_first test xs
kept_all test [] none = refl
kept_all test (x ∷ xs) none = kept_here (test x) x xs (without_first test xs) (find test xs) none (kept_all test xs)

nonzero : (n : ℕ) → (suc n == 0) ≡ false
nonzero n = grind (arith, nat_tests)

pub waits_so : (b : Bool) (attached : List trails.Attached) (ws : List Waiting) → b ≡ (length ws == 0) → IfWaits (not b) (record { attached = attached; waiting = map waiting_of ws })
waits_so b attached [] is = subst (λ (b : Bool). IfWaits (not b) (record { attached = attached; waiting = [] })) (sym is) refl
waits_so b attached (w ∷ ws) is = subst (λ (b : Bool). IfWaits (not b) (record { attached = attached; waiting = map waiting_of (w ∷ ws) })) (sym (is ∙ nonzero (length ws))) (waiting_of w, map waiting_of ws, refl)

filter_here : {A B : Type 0} (f : A → B) (x : A) (b : Bool) (xs : List A) (ys : List B) → map f xs ≡ ys → map f (cond b (x ∷ xs) xs) ≡ cond b (f x ∷ ys) ys
filter_here f x true xs ys is = ap (λ zs. f x ∷ zs) is
filter_here f x false xs ys is = is

pub filter_seen : {A B : Type 0} (f : A → B) (p : B → Bool) (xs : List A) → map f (filter (λ x. p (f x)) xs) ≡ filter p (map f xs)
filter_seen f p [] = refl
filter_seen f p (x ∷ xs) = filter_here f x (p (f x)) (filter (λ y. p (f y)) xs) (filter p (map f xs)) (filter_seen f p xs)

without_here : {A B : Type 0} (f : A → B) (x : A) (b : Bool) (xs zs : List A) (ys : List B) → map f zs ≡ ys → map f (if b then xs else x ∷ zs) ≡ (if b then map f xs else f x ∷ ys)
without_here f x true xs zs ys is = refl
without_here f x false xs zs ys is = ap (λ ws. f x ∷ ws) is

pub without_seen : {A B : Type 0} (f : A → B) (p : B → Bool) (xs : List A) → map f (without_first (λ x. p (f x)) xs) ≡ without_first p (map f xs)
without_seen f p [] = refl
without_seen f p (x ∷ xs) = without_here f x (p (f x)) xs (without_first (λ y. p (f y)) xs) (without_first p (map f xs)) (without_seen f p xs)
