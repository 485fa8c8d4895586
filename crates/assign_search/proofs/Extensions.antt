-- The coordinates that go on from a point.
use Rattle.std.proofs.Common.{◌≡◌, ◌≢◌, ℕ, zero, suc, ◌+◌, ◌<◌, ◌≤◌, List, [], ◌∷◌, drop, length, get_or, slice_get, Option, Some, None, IsSome, IfSome, IfNone, refl, sym, ◌∙◌, ap, subst, arith}
use Rattle.std.specs.List.{AllByRecursion}
use Rattle.std.proofs.lemmas.Option.{slice_get_within, get_or_from_slice_get, slice_get-get_or, slice_get_past}
use Rattle.resource_reqs.specs.Resources.{Res}
use Rattle.resource_reqs.specs.Resources.{Want}
use Rattle.assign_search.specs.declared.spots.Step.{Step}
use Rattle.assign_search.specs.declared.spots.Step.TheVariants.{Alt, At}
use Rattle.assign_search.specs.declared.spots.Spot.TheVariants.{Inside}
use Rattle.assign_search.specs.declared.spots.Child.{Child}
use Rattle.resource_reqs.specs.Resources.{AltList, Group, Reqs, res_at}
use Rattle.resource_reqs.specs.Spelling.{Coord, alt, place, Less, Place, choose, listed, put}
use Rattle.assign_search.specs.Walking.{SameFrom, IsChild, NoChild, IsOpenCoord, OpenPick, NoPick, NoPickFrom, NextPick, coord_of}
use Rattle.resource_reqs.proofs.Order.{less_irrefl}
use Rattle.assign_search.proofs.Rest.{drop_next, false_true}

choose_here : (placed : List Place) (reqs : Reqs) (movers : List Reqs) (i : ℕ) → 0 < length reqs → choose placed (reqs ∷ movers) i ≡ listed placed movers (slice_get reqs i)
choose_here placed [] movers i h = absurd (omega arith)
choose_here placed (list ∷ lists) movers i h = refl

choose_at : (ms : List Reqs) (mover at : ℕ) (reqs : Reqs) (placed : List Place) (i : ℕ) → slice_get ms at ≡ Some reqs → 0 < length reqs → SameFrom ms mover at
    → choose placed (drop mover ms) i ≡ listed placed (drop (at + 1) ms) (slice_get reqs i)
choose_at ms mover at reqs placed i read some same =
    same.choosing placed i ∙ ap (λ l. choose placed l i) (drop_next ms at reqs read) ∙ choose_here placed reqs (drop (at + 1) ms) i some

some_of : {X : Type 0} (o : Option X) (x : X) → o ≡ Some x → IsSome o
some_of o x h = subst IsSome (sym h) refl

none_of : {X : Type 0} (o : Option X) → o ≡ None → IsSome o → ⊥
none_of o h s = false_true (subst IsSome h s)

not_between : (i : ℕ) (x : Coord) → Less x (alt (i + 1)) → Less (alt i) x → ⊥
not_between i (alt j) h g = omega arith
not_between i (place v t) h g = h

pub list_found : (ms : List Reqs) (mover at first : ℕ) (reqs : Reqs) → slice_get ms at ≡ Some reqs → first < length reqs → SameFrom ms mover at
    → (held : List Res) → IsChild held ms [] (drop mover ms) (alt first) (record { step = Alt first; next = Alt (first + 1); spot = Inside at first 0; res = None })
list_found ms mover at first reqs read within same held =
    let list : AltList = get_or reqs first [] in
    let has : slice_get reqs first ≡ Some (get_or reqs first []) = slice_get-get_or reqs first [] within in
    let here : get_or ms at [] ≡ reqs = get_or_from_slice_get ms at reqs [] read in
    let inside : at < length ms = slice_get_within ms at reqs read in
    let goes : (placed : List Place) → choose placed (drop mover ms) first ≡ Some (record { placed = placed; groups = get_or reqs first []; movers = drop (at + 1) ms }) =
    λ placed. choose_at ms mover at reqs placed first read (omega arith) same ∙ ap (listed placed (drop (at + 1) ms)) has in
    record {
      is_open = some_of (choose [] (drop mover ms) first) _ (goes []);
      after = less_irrefl (alt first);
      least = λ x above below open_. above below;
      goes = λ placed. goes placed ∙ ap (λ r. Some (record { placed = placed; groups = get_or r first []; movers = drop (at + 1) ms })) (sym here);
      spot = (inside, subst (λ r. first < length r) (sym here) within);
      next = record { later = omega arith; at_once = λ held x before after open_. not_between first x before after };
    }

pub list_none : (ms : List Reqs) (mover at first : ℕ) (reqs : Reqs) → slice_get ms at ≡ Some reqs → 0 < length reqs → length reqs ≤ first → SameFrom ms mover at
    → (held : List Res) → NoChild held [] (drop mover ms) (alt first)
list_none ms mover at first reqs read some past same held (place w s) above open_ = open_
list_none ms mover at first reqs read some past same held (alt i) above open_ =
    none_of (choose [] (drop mover ms) i)
    (choose_at ms mover at reqs [] i read some same ∙ ap (listed [] (drop (at + 1) ms)) (slice_get_past reqs i (omega arith))) open_

pub some_length : {X : Type 0} (xs : List X) → xs ≢ [] → 0 < length xs
some_length [] h = absurd (h refl)
some_length (x ∷ xs) h = omega arith

pub pick_found : (held : List Res) (ms : List Reqs) (mover list group : ℕ) (gs : List Group) (g : Group) (from : Coord) (w0 s0 w s : ℕ) (after_it : Step) (want : Want) (res : Res)
    → slice_get gs group ≡ Some g → gs ≡ get_or (get_or ms mover []) list [] → mover < length ms → list < length (get_or ms mover [])
    → OpenPick held g w s → slice_get g w ≡ Some want → res ≡ res_at want s → NextPick g w s (coord_of after_it)
    → ((v t : ℕ) → (Less (place v t) from → ⊥) → Less (place v t) (place w0 s0) → ⊥)
    → ((v t : ℕ) → (Less (place v t) (place w0 s0) → ⊥) → Less (place v t) from → ⊥)
    → (Less (place w s) (place w0 s0) → ⊥) → NoPick held g (place w0 s0) (place w s)
    → IsChild held ms (drop group gs) (drop (mover + 1) ms) from (record { step = At w s; next = after_it; spot = Inside mover list (group + 1); res = Some res })
pick_found held ms mover list group gs g from w0 s0 w s after_it want res read is inside within picked reads made next up down after least =
    let split : drop group gs ≡ g ∷ drop (group + 1) gs = drop_next gs group g read in
    subst (λ l. IsChild held ms l (drop (mover + 1) ms) from (record { step = At w s; next = after_it; spot = Inside mover list (group + 1); res = Some res })) (sym split) (record {
      is_open = picked;
      after = down w s after;
      least = λ x above below open_. none x above below open_;
      goes = (
        want,
        s,
        made,
        λ placed.
            ap (put placed (drop (group + 1) gs) (drop (mover + 1) ms) s) reads
            ∙ ap (λ l. Some (record { placed = record { want = want; start = s } ∷ placed; groups = drop (group + 1) l; movers = drop (mover + 1) ms })) is,
      );
      spot = (inside, within);
      next = record { later = next.later; at_once = λ other x before later open_. none_next other x before later open_ };
    })
  where
    none : (x : Coord) → (Less x from → ⊥) → Less x (place w s) → IsOpenCoord held (g ∷ drop (group + 1) gs) (drop (mover + 1) ms) x → ⊥
    none (alt i) above below open_ = open_
    none (place v t) above below open_ = least v t (up v t above) below open_

    none_next : (other : List Res) (x : Coord) → Less x (coord_of after_it) → Less (place w s) x → IsOpenCoord other (g ∷ drop (group + 1) gs) (drop (mover + 1) ms) x → ⊥
    none_next other (alt i) before later open_ = open_
    none_next other (place v t) before later open_ = next.at_once other v t before later open_

pub pick_none_left : (held : List Res) (group : ℕ) (gs : List Group) (g : Group) (from : Coord) (w0 s0 : ℕ) → slice_get gs group ≡ Some g
    → ((v t : ℕ) → (Less (place v t) from → ⊥) → Less (place v t) (place w0 s0) → ⊥)
    → NoPickFrom held g (place w0 s0) → (movers : List Reqs) → NoChild held (drop group gs) movers from
pick_none_left held group gs g from w0 s0 read up none movers =
    let split : drop group gs ≡ g ∷ drop (group + 1) gs = drop_next gs group g read in
    subst (λ l. NoChild held l movers from) (sym split) (λ x above open_. nothing x above open_)
  where
    nothing : (x : Coord) → (Less x from → ⊥) → IsOpenCoord held (g ∷ drop (group + 1) gs) movers x → ⊥
    nothing (alt i) above open_ = open_
    nothing (place v t) above open_ = none v t (up v t above) open_

-- the same for one list of held resources
pub child_at : (held : List Res) (all : List Reqs) (groups : List Group) (movers : List Reqs) (from : Coord) (o : Option Child)
    → IfSome o (λ child. (held : List Res) → IsChild held all groups movers from child) → IfSome o (λ child. IsChild held all groups movers from child)
child_at held all groups movers from None h = tt
child_at held all groups movers from (Some child) h = h held

pub no_child_at : (held : List Res) (groups : List Group) (movers : List Reqs) (from : Coord) (o : Option Child)
    → IfNone o ((held : List Res) → NoChild held groups movers from) → IfNone o (NoChild held groups movers from)
no_child_at held groups movers from None h = h held
no_child_at held groups movers from (Some child) h = tt

-- past the last mover nothing is left
pub nothing_past : (ms : List Reqs) → AllByRecursion (λ reqs. reqs ≡ []) (drop (length ms) ms)
nothing_past [] = tt
nothing_past (m ∷ ms) = nothing_past ms

-- a mover with lists is left
pub something_at : (ms : List Reqs) (at : ℕ) → at < length ms → ((reqs : Reqs) → slice_get ms at ≡ Some reqs → reqs ≢ []) → AllByRecursion (λ reqs. reqs ≡ []) (drop at ms) → ⊥
something_at ms at within has none =
    let read : slice_get ms at ≡ Some (get_or ms at []) = slice_get-get_or ms at [] within in
    has (get_or ms at []) read (subst (AllByRecursion (λ reqs. reqs ≡ [])) (drop_next ms at (get_or ms at []) read) none).0

-- groups are left
pub groups_left : (gs : List Group) (group : ℕ) → group < length gs → drop group gs ≡ [] → ⊥
groups_left gs group within e =
    let read : slice_get gs group ≡ Some (get_or gs group []) = slice_get-get_or gs group [] within in
    let split : drop group gs ≡ get_or gs group [] ∷ drop (group + 1) gs = drop_next gs group (get_or gs group []) read in
    cc

pub no_groups : (gs : List Group) (group : ℕ) → length gs ≤ group → drop group gs ≡ []
no_groups [] zero h = refl
no_groups [] (suc group) h = refl
no_groups (g ∷ gs) zero h = absurd (omega arith)
no_groups (g ∷ gs) (suc group) h = no_groups gs group (omega arith)
