-- What is held, as one list, against what is fixed and placed; what is open against what is clean and live.
use Rattle.std.proofs.Common.{◌≡◌, ℕ, inl, inr, List, [], ◌∷◌, ◌++◌, map, length, slice_get, Contains, Option, Some, None, IsSome, refl, sym, ◌∙◌, ap, subst, arith}
use Rattle.std.specs.List.{AllByRecursion}
use Rattle.std.proofs.lemmas.Option.{slice_get-get_or}
use Rattle.std.proofs.lemmas.List.Elements.{All-cons, All-head, All-tail, All-nil, All-push, All-contains, All-from_recursion, recursion_from_All, Contains-push}
use Rattle.resource_reqs.specs.Resources.{Res}
use Rattle.resource_reqs.specs.Resources.{Clash, Free, Group, AltList, Reqs, res_at}
use Rattle.resource_reqs.specs.Spelling.{Coord, alt, place, Place, res_of, Point, listed, choose, next_in, next, after, root, CleanPlaces, HasPlace, HasList, LiveAt, Clean}
use Rattle.assign_search.specs.Walking.{HasOpen, AllOpen, HasOpenList, IsOpenCoord}
use Rattle.resource_reqs.proofs.Points.{all_weaker, contains_read, and_then_some, after_parts}
use Rattle.resource_reqs.proofs.Fitting.{put_read, listed_read}

-- what is held where this is placed, last first
abbrev pub held_of : List Res → List Place → List Res
held_of fixed [] = fixed
held_of fixed (p ∷ placed) = held_of fixed placed ++ res_of p ∷ []

pub free_held : (fixed : List Res) (placed : List Place) (r : Res) → Free fixed r → Free (map res_of placed) r → Free (held_of fixed placed) r
free_held fixed [] r f g = f
free_held fixed (p ∷ placed) r f g =
    All-push (λ other. ¬ Clash other r) (held_of fixed placed) (res_of p)
    (free_held fixed placed r f (All-tail (λ other. ¬ Clash other r) (res_of p) (map res_of placed) g))
    (All-head (λ other. ¬ Clash other r) (res_of p) (map res_of placed) g)

pub free_fixed : (fixed : List Res) (placed : List Place) (r : Res) → Free (held_of fixed placed) r → Free fixed r
free_fixed fixed [] r h = h
free_fixed fixed (p ∷ placed) r h =
    free_fixed fixed placed r (part (held_of fixed placed) (res_of p) h)
  where
    part : (xs : List Res) (x : Res) → Free (xs ++ x ∷ []) r → Free xs r
    part xs x h = All-from_recursion (λ other. ¬ Clash other r) xs (go xs (recursion_from_All (λ other. ¬ Clash other r) (xs ++ x ∷ []) h))
      where
        go : (xs : List Res) → AllByRecursion (λ other. ¬ Clash other r) (xs ++ x ∷ []) → AllByRecursion (λ other. ¬ Clash other r) xs
        go [] h = tt
        go (y ∷ xs) h = (h.0, go xs h.1)

pub free_placed : (fixed : List Res) (placed : List Place) (r : Res) → Free (held_of fixed placed) r → Free (map res_of placed) r
free_placed fixed [] r h = All-nil (λ other. ¬ Clash other r)
free_placed fixed (p ∷ placed) r h =
    All-cons (λ other. ¬ Clash other r) (res_of p) (map res_of placed)
    (All-contains (λ other. ¬ Clash other r) (held_of fixed placed ++ res_of p ∷ []) (res_of p) h (Contains-push (held_of fixed placed) (res_of p)))
    (free_placed fixed placed r (part (held_of fixed placed) (res_of p) h))
  where
    part : (xs : List Res) (x : Res) → Free (xs ++ x ∷ []) r → Free xs r
    part xs x h = All-from_recursion (λ other. ¬ Clash other r) xs (go xs (recursion_from_All (λ other. ¬ Clash other r) (xs ++ x ∷ []) h))
      where
        go : (xs : List Res) → AllByRecursion (λ other. ¬ Clash other r) (xs ++ x ∷ []) → AllByRecursion (λ other. ¬ Clash other r) xs
        go [] h = tt
        go (y ∷ xs) h = (h.0, go xs h.1)

read_contained : {X : Type 0} (xs : List X) (x : X) → Contains xs x → (k : ℕ) × (slice_get xs k ≡ Some x)
read_contained xs x (k, within, is) = (k, slice_get-get_or xs k x within ∙ ap Some is)

-- an open place of a group
has_open : (fixed : List Res) (placed : List Place) (g : Group) → HasPlace fixed placed g → HasOpen (held_of fixed placed) g
has_open fixed placed g (want, start, inside, may, free, apart) =
    let (k, read) = read_contained g want inside in
    (k, start, (want, read, (may, free_held fixed placed (res_at want start) free apart)))

has_place : (fixed : List Res) (placed : List Place) (g : Group) → HasOpen (held_of fixed placed) g → HasPlace fixed placed g
has_place fixed placed g (k, start, (want, read, (may, free))) =
    (want, start, contains_read g k want read, may, free_fixed fixed placed (res_at want start) free, free_placed fixed placed (res_at want start) free)

has_open_list : (fixed : List Res) (placed : List Place) (reqs : Reqs) → HasList fixed placed reqs → HasOpenList (held_of fixed placed) reqs
has_open_list fixed placed reqs (inl e) = inl e
has_open_list fixed placed reqs (inr (list, inside, each)) =
    let (k, read) = read_contained reqs list inside in
    inr (k, list, read, all_weaker (HasPlace fixed placed) (HasOpen (held_of fixed placed)) (has_open fixed placed) list each)

has_list : (fixed : List Res) (placed : List Place) (reqs : Reqs) → HasOpenList (held_of fixed placed) reqs → HasList fixed placed reqs
has_list fixed placed reqs (inl e) = inl e
has_list fixed placed reqs (inr (k, list, read, each)) =
    inr (list, contains_read reqs k list read, all_weaker (HasOpen (held_of fixed placed)) (HasPlace fixed placed) (has_place fixed placed) list each)

pub live_of_open : (fixed : List Res) (at : Point) → CleanPlaces fixed at.placed → AllOpen (held_of fixed at.placed) at.groups
    → AllByRecursion (HasOpenList (held_of fixed at.placed)) at.movers → LiveAt fixed at
live_of_open fixed at clean groups movers = record {
  clean = clean;
  left = all_weaker (HasOpen (held_of fixed at.placed)) (HasPlace fixed at.placed) (has_place fixed at.placed) at.groups groups;
  later = all_weaker (HasOpenList (held_of fixed at.placed)) (HasList fixed at.placed) (has_list fixed at.placed) at.movers movers;
}

pub open_of_live : (fixed : List Res) (at : Point) → LiveAt fixed at
    → AllOpen (held_of fixed at.placed) at.groups × AllByRecursion (HasOpenList (held_of fixed at.placed)) at.movers
open_of_live fixed at live = (
  all_weaker (HasPlace fixed at.placed) (HasOpen (held_of fixed at.placed)) (has_open fixed at.placed) at.groups live.left,
  all_weaker (HasList fixed at.placed) (HasOpenList (held_of fixed at.placed)) (has_open_list fixed at.placed) at.movers live.later,
)

-- a list can be chosen whatever is placed
choose_any : (placed other : List Place) (movers : List Reqs) (i : ℕ) → IsSome (choose placed movers i) → IsSome (choose other movers i)
choose_any placed other [] i h = h
choose_any placed other ([] ∷ movers) i h = choose_any placed other movers i h
choose_any placed other ((list ∷ lists) ∷ movers) i h = go (slice_get (list ∷ lists) i) h
  where
    go : (o : Option AltList) → IsSome (listed placed movers o) → IsSome (listed other movers o)
    go None h = h
    go (Some x) h = refl

pub choose_placed : (placed : List Place) (movers : List Reqs) (i : ℕ) (to : Point) → choose placed movers i ≡ Some to → to.placed ≡ placed
choose_placed placed [] i to h = cc
choose_placed placed ([] ∷ movers) i to h = choose_placed placed movers i to h
choose_placed placed ((list ∷ lists) ∷ movers) i to h =
    let (chosen, read, is) = listed_read placed movers (slice_get (list ∷ lists) i) to h in
    ap (λ z. z.placed) is

pub longer : {X : Type 0} (x : X) (xs : List X) → x ∷ xs ≡ xs → ⊥
longer x xs e = let n : length (x ∷ xs) ≡ length xs = ap length e in omega arith

-- a clean extension is an open coordinate
pub open_of_clean : (fixed : List Res) (placed : List Place) (groups : List Group) (movers : List Reqs) (c : Coord) (to : Point)
    → next_in placed groups movers c ≡ Some to → CleanPlaces fixed to.placed → IsOpenCoord (held_of fixed placed) groups movers c
open_of_clean fixed placed [] movers (alt i) to h clean = choose_any placed [] movers i (subst IsSome (sym h) refl)
open_of_clean fixed placed [] movers (place w s) to h clean = cc
open_of_clean fixed placed (g ∷ groups) movers (alt i) to h clean = cc
open_of_clean fixed placed (g ∷ groups) movers (place w s) to h clean =
    let (want, read, is) = put_read placed groups movers s (slice_get g w) to h in
    let made : CleanPlaces fixed (record { want = want; start = s } ∷ placed) = subst (CleanPlaces fixed) (ap (λ z. z.placed) is) clean in
    (want, read, (made.0, free_held fixed placed (res_at want s) made.1 made.2))

-- and an open coordinate is a clean extension
pub clean_of_open : (fixed : List Res) (placed : List Place) (groups : List Group) (movers : List Reqs) (c : Coord) (to : Point)
    → CleanPlaces fixed placed → next_in placed groups movers c ≡ Some to → IsOpenCoord (held_of fixed placed) groups movers c → CleanPlaces fixed to.placed
clean_of_open fixed placed [] movers (alt i) to clean h open_ = subst (CleanPlaces fixed) (sym (choose_placed placed movers i to h)) clean
clean_of_open fixed placed [] movers (place w s) to clean h open_ = cc
clean_of_open fixed placed (g ∷ groups) movers (alt i) to clean h open_ = cc
clean_of_open fixed placed (g ∷ groups) movers (place w s) to clean h (want', read', (may, free)) =
    let (want, read, is) = put_read placed groups movers s (slice_get g w) to h in
    let same : want' ≡ want = cc in
    let here : CleanPlaces fixed (record { want = want'; start = s } ∷ placed) =
    (may, free_fixed fixed placed (res_at want' s) free, free_placed fixed placed (res_at want' s) free, clean) in
    subst (CleanPlaces fixed) (sym (ap (λ z. z.placed) is)) (subst (λ x. CleanPlaces fixed (record { want = x; start = s } ∷ placed)) same here)

-- a clean extension of a prefix is an open coordinate where the prefix ends
pub open_at : (fixed : List Res) (ms : List Reqs) (p : List Coord) (at : Point) → after p (root ms) ≡ Some at
    → (x : Coord) → Clean fixed ms (p ++ x ∷ []) → IsOpenCoord (held_of fixed at.placed) at.groups at.movers x
open_at fixed ms p at leads x (to, leads_to, clean) =
    let (mid, first, last) = after_parts p (x ∷ []) (root ms) to leads_to in
    let (end, step, done) = and_then_some (after []) (next mid x) to last in
    let same : end ≡ to = cc in
    let here : mid ≡ at = cc in
    let goes : next at x ≡ Some end = subst (λ z. next z x ≡ Some end) here step in
    open_of_clean fixed at.placed at.groups at.movers x end goes (subst (λ (z : Point). CleanPlaces fixed z.placed) (sym same) clean)

-- what is left after one coordinate was left before it
choose_later : (P : Reqs → Type 0) (placed : List Place) (movers : List Reqs) (i : ℕ) (to : Point) → choose placed movers i ≡ Some to → AllByRecursion P movers → AllByRecursion P to.movers
choose_later P placed [] i to h all = cc
choose_later P placed ([] ∷ movers) i to h all = choose_later P placed movers i to h all.1
choose_later P placed ((list ∷ lists) ∷ movers) i to h all =
    let (chosen, read, is) = listed_read placed movers (slice_get (list ∷ lists) i) to h in
    subst (AllByRecursion P) (sym (ap (λ z. z.movers) is)) all.1

pub later_next : (P : Reqs → Type 0) (placed : List Place) (groups : List Group) (movers : List Reqs) (c : Coord) (to : Point)
    → next_in placed groups movers c ≡ Some to → AllByRecursion P movers → AllByRecursion P to.movers
later_next P placed [] movers (alt i) to h all = choose_later P placed movers i to h all
later_next P placed [] movers (place w s) to h all = cc
later_next P placed (g ∷ groups) movers (alt i) to h all = cc
later_next P placed (g ∷ groups) movers (place w s) to h all =
    let (want, read, is) = put_read placed groups movers s (slice_get g w) to h in
    subst (AllByRecursion P) (sym (ap (λ z. z.movers) is)) all

-- where a place was taken, the groups after it are left
pub groups_next : (Q : Group → Type 0) (placed : List Place) (groups : List Group) (movers : List Reqs) (c : Coord) (to : Point) (p : Place)
    → next_in placed groups movers c ≡ Some to → to.placed ≡ p ∷ placed → AllByRecursion Q groups → AllByRecursion Q to.groups
groups_next Q placed [] movers (alt i) to p h is all = absurd (longer p placed (sym is ∙ choose_placed placed movers i to h))
groups_next Q placed [] movers (place w s) to p h is all = cc
groups_next Q placed (g ∷ groups) movers (alt i) to p h is all = cc
groups_next Q placed (g ∷ groups) movers (place w s) to p h is all =
    let (want, read, made) = put_read placed groups movers s (slice_get g w) to h in
    subst (AllByRecursion Q) (sym (ap (λ z. z.groups) made)) all.1
