-- What may be held of clipped requirements: want by want, group by group, list by list.
use Rattle.std.proofs.Common.{ℕ, ◌+◌, ◌%◌, ◌≤◌, ◌≡◌, inl, inr, Bool, true, false, List, [], ◌∷◌, map, length, Contains, max, min, refl, sym, ap, ap₂, ◌∙◌, subst, arith}
use Rattle.std.specs.List.{AllByRecursion, AllZip}
use Rattle.std.proofs.lemmas.Bool.Decides.{nat_tests}
use Rattle.std.proofs.Math.Nat.{le-max_left, le-max_right, max-eq_left, max-le, min-eq_left, min-le_left, min-le_right, le-min}
use Rattle.std.proofs.lemmas.List.{length-map}
use Rattle.std.proofs.lemmas.List.Elements.{All-from_recursion, recursion_from_All, Contains-append_right}
use Rattle.resource_reqs.specs.Resources.{Res, Want, Group, AltList, Reqs, May, MayFrom, Whole}
use Rattle.resource_reqs.specs.declared.kind.Kind.{Kind}
use Rattle.resource_reqs.proofs.Counts.{contains_cons, contains_nil}
use Rattle.pnp_model.specs.Windows.{Room, cut, placeless, has_room, clipped_with, clipped_want, clip_by}
use Rattle.pnp_model.specs.Clips.{IsInRoom, ClipLaw, ClipTwiceLaw, ClipCountsLaw}

-- One want -----------------------------------------------------------------------------

abbrev IsIn : Room → Res → Type 0
IsIn r res = (r.lo ≤ res.lo) × (res.hi ≤ r.hi)

from_cut : (r : Room) (want : Want) (res : Res) → May (cut r want) res → May want res × IsIn r res
from_cut r want res (kind, shared, low, high, long, aligned) =
    let a = le-max_left want.min r.lo in
    let b = le-max_right want.min r.lo in
    let c = min-le_left want.max r.hi in
    let d = min-le_right want.max r.hi in
    ((kind, shared, omega arith, omega arith, long, aligned), (omega arith, omega arith))

to_cut : (r : Room) (want : Want) (res : Res) → May want res → IsIn r res → May (cut r want) res
to_cut r want res (kind, shared, low, high, long, aligned) inside =
    (kind, shared, max-le low inside.0, le-min high inside.1, long, aligned)

nothing_from : (want : Want) (res : Res) → May (placeless want) res → ⊥
nothing_from want res (kind, shared, low, high, long, aligned) =
    let one : res.lo ≡ 1 = omega arith in
    let even = subst (λ (n : ℕ). n % 2 ≡ 0) one aligned in
    omega arith

-- what may come from it has room in it
has_room_for : (want : Want) (res : Res) → May want res → has_room want ≡ true
has_room_for want res (kind, shared, low, high, long, aligned) = let l : want.min + want.len ≤ want.max + 1 = omega arith in grind (arith, nat_tests)

from_clipped : (r : Room) (want : Want) (res : Res) → May (clipped_want r want) res → May want res × IsIn r res
from_clipped r want res = by_test (has_room (cut r want))
  where
    by_test : (b : Bool) → May (clipped_with want (cut r want) b) res → May want res × IsIn r res
    by_test true may = from_cut r want res may
    by_test false may = absurd (nothing_from want res may)

to_clipped : (r : Room) (want : Want) (res : Res) → May want res → IsIn r res → May (clipped_want r want) res
to_clipped r want res may inside =
    let now = to_cut r want res may inside in
    subst (λ (b : Bool). May (clipped_with want (cut r want) b) res) (sym (has_room_for (cut r want) res now)) now

-- Groups, lists and all ------------------------------------------------------------------

contains_mapped : {X Y : Type 0} (f : X → Y) (xs : List X) (x : X) → Contains xs x → Contains (map f xs) (f x)
contains_mapped f [] x c = absurd (contains_nil x c)
contains_mapped f (y ∷ ys) x c = elim (contains_cons y ys x c) [
  | inl e ↦ subst (λ z. Contains (map f (y ∷ ys)) (f z)) (sym e) (0, omega arith, refl)
  | inr more ↦ Contains-append_right (f y ∷ []) (map f ys) (f x) (contains_mapped f ys x more)
]

mapped_from : {X Y : Type 0} (f : X → Y) (xs : List X) (y : Y) → Contains (map f xs) y → (x : X) × Contains xs x × (y ≡ f x)
mapped_from f [] y c = absurd (contains_nil y c)
mapped_from f (x ∷ xs) y c = elim (contains_cons (f x) (map f xs) y c) [
  | inl e ↦ (x, (0, omega arith, refl), e)
  | inr more ↦ let rest = mapped_from f xs y more in (rest.0, Contains-append_right (x ∷ []) xs rest.0 rest.1, rest.2)
]

module _ (rooms : Kind → Room) where
  abbrev clipped : Want → Want
  clipped want = clipped_want (rooms want.kind) want

  abbrev clipped_group : Group → Group
  clipped_group group = map clipped group

  abbrev clipped_list : AltList → AltList
  clipped_list list = map clipped_group list

  -- the room is that of the resource's kind
  own_room : (want : Want) (res : Res) → May want res → IsIn (rooms want.kind) res → IsInRoom rooms res
  own_room want res may inside = subst (λ (k : Kind). IsIn (rooms k) res) (sym may.0) inside

  from_group : (group : Group) (res : Res) → MayFrom (clipped_group group) res → MayFrom group res × IsInRoom rooms res
  from_group group res (now, there, may) =
      let old = mapped_from clipped group now there in
      let both = from_clipped (rooms old.0.kind) old.0 res (subst (λ (w : Want). May w res) old.2 may) in
      ((old.0, old.1, both.0), own_room old.0 res both.0 both.1)

  to_group : (group : Group) (res : Res) → MayFrom group res → IsInRoom rooms res → MayFrom (clipped_group group) res
  to_group group res (want, there, may) inside =
      (clipped want, contains_mapped clipped group want there, to_clipped (rooms want.kind) want res may (subst (λ (k : Kind). IsIn (rooms k) res) may.0 inside))

  from_list : (list : AltList) (holds : List Res) → AllZip MayFrom (clipped_list list) holds → AllZip MayFrom list holds × AllByRecursion (IsInRoom rooms) holds
  from_list [] [] h = (tt, tt)
  from_list [] (r ∷ rs) h = absurd h
  from_list (g ∷ gs) [] h = absurd h
  from_list (g ∷ gs) (r ∷ rs) h =
      let one = from_group g r h.0 in
      let rest = from_list gs rs h.1 in
      ((one.0, rest.0), (one.1, rest.1))

  to_list : (list : AltList) (holds : List Res) → AllZip MayFrom list holds → AllByRecursion (IsInRoom rooms) holds → AllZip MayFrom (clipped_list list) holds
  to_list [] [] h inside = tt
  to_list [] (r ∷ rs) h inside = absurd h
  to_list (g ∷ gs) [] h inside = absurd h
  to_list (g ∷ gs) (r ∷ rs) h inside = (to_group g r h.0 inside.0, to_list gs rs h.1 inside.1)

  none_clipped : (reqs : Reqs) → clip_by rooms reqs ≡ [] → reqs ≡ []
  none_clipped [] h = refl
  none_clipped (list ∷ reqs) h = absurd (cc)

  from_whole : (reqs : Reqs) (holds : List Res) → Whole (clip_by rooms reqs) holds → Whole reqs holds × AllByRecursion (IsInRoom rooms) holds
  from_whole reqs holds (inl (none, empty)) = (inl (none_clipped reqs none, empty), subst (AllByRecursion (IsInRoom rooms)) (sym empty) tt)
  from_whole reqs holds (inr (now, there, all)) =
      let old = mapped_from clipped_list reqs now there in
      let both = from_list old.0 holds (subst (λ (list : AltList). AllZip MayFrom list holds) old.2 all) in
      (inr (old.0, old.1, both.0), both.1)

  to_whole : (reqs : Reqs) (holds : List Res) → Whole reqs holds → AllByRecursion (IsInRoom rooms) holds → Whole (clip_by rooms reqs) holds
  to_whole reqs holds (inl (none, empty)) inside = inl (ap (clip_by rooms) none, empty)
  to_whole reqs holds (inr (list, there, all)) inside = inr (clipped_list list, contains_mapped clipped_list reqs list there, to_list list holds all inside)

pub clip_is_whole : ClipLaw
clip_is_whole rooms reqs holds = (
  λ whole. let both = from_whole rooms reqs holds whole in (both.0, All-from_recursion (IsInRoom rooms) holds both.1),
  λ both. to_whole rooms reqs holds both.0 (recursion_from_All (IsInRoom rooms) holds both.1),
)

-- Twice ----------------------------------------------------------------------------------

kind_stays : (want now : Want) (b : Bool) → now.kind ≡ want.kind → (clipped_with want now b).kind ≡ want.kind
kind_stays want now true e = e
kind_stays want now false e = refl

cut_twice : (r : Room) (want : Want) → cut r (cut r want) ≡ cut r want
cut_twice r want = ap₂ (λ (lo hi : ℕ). record want { min = lo; max = hi }) (max-eq_left (le-max_right want.min r.lo)) (min-eq_left (min-le_right want.max r.hi))

-- where one lies in the room, nothing is cut off it; else it has no room left
placeless_twice : (r : Room) (want : Want) → clipped_want r (placeless want) ≡ placeless want
placeless_twice r want = by_test (has_room (cut r (placeless want))) refl
  where
    by_test : (b : Bool) → has_room (cut r (placeless want)) ≡ b → clipped_with (placeless want) (cut r (placeless want)) b ≡ placeless want
    by_test false e = refl
    by_test true e =
        let fits : max 1 r.lo + 1 ≤ min 1 r.hi + 1 = grind (arith, nat_tests) in
        let a = le-max_left 1 r.lo in
        let b = min-le_left 1 r.hi in
        let low : max 1 r.lo ≡ 1 = omega arith in
        let high : min 1 r.hi ≡ 1 = omega arith in
        ap₂ (λ (lo hi : ℕ). record (placeless want) { min = lo; max = hi }) low high

want_twice : (r : Room) (want : Want) → clipped_want r (clipped_want r want) ≡ clipped_want r want
want_twice r want = by_test (has_room (cut r want)) refl
  where
    by_test : (b : Bool) → has_room (cut r want) ≡ b → clipped_want r (clipped_with want (cut r want) b) ≡ clipped_with want (cut r want) b
    by_test true e =
        ap (clipped_with (cut r want) (cut r (cut r want))) (ap has_room (cut_twice r want) ∙ e) ∙ cut_twice r want
    by_test false e = placeless_twice r want

map_twice : {X : Type 0} (f : X → X) → ((x : X) → f (f x) ≡ f x) → (xs : List X) → map f (map f xs) ≡ map f xs
map_twice f same [] = refl
map_twice f same (x ∷ xs) = ap₂ (λ y ys. y ∷ ys) (same x) (map_twice f same xs)

pub clip_twice : ClipTwiceLaw
clip_twice rooms reqs = map_twice (clipped_list rooms) (map_twice (clipped_group rooms) (map_twice (clipped rooms) one)) reqs
  where
    one : (want : Want) → clipped rooms (clipped rooms want) ≡ clipped rooms want
    one want =
        let kind = kind_stays want (cut (rooms want.kind) want) (has_room (cut (rooms want.kind) want)) refl in
        ap (λ (k : Kind). clipped_want (rooms k) (clipped rooms want)) kind ∙ want_twice (rooms want.kind) want

-- Counts ---------------------------------------------------------------------------------

map_alike : {X Y Z : Type 0} (f : X → Y) (g : Y → Z) (h : X → Z) → ((x : X) → g (f x) ≡ h x) → (xs : List X) → map g (map f xs) ≡ map h xs
map_alike f g h same [] = refl
map_alike f g h same (x ∷ xs) = ap₂ (λ y ys. y ∷ ys) (same x) (map_alike f g h same xs)

pub clip_counts : ClipCountsLaw
clip_counts rooms reqs =
    map_alike (clipped_list rooms) (λ list. map (λ group. length group) list) (λ list. map (λ group. length group) list)
    (map_alike (clipped_group rooms) (λ group. length group) (λ group. length group) (λ group. length-map group (clipped rooms))) reqs
