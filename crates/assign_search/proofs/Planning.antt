-- The plan along the frames of a path is what its coordinates spell.
use Rattle.std.proofs.Common.{◌≡◌, ℕ, zero, suc, ◌+◌, ◌<◌, ◌≤◌, List, [], ◌∷◌, ◌++◌, drop, length, slice_get, Option, Some, None, option_and_then, refl, sym, ◌∙◌, ap, ap₂, subst, arith, append_assoc}
use Rattle.std.proofs.lemmas.List.{drop_all}
use Rattle.std.specs.List.{AllByRecursion}
use Rattle.resource_reqs.specs.Resources.{Res, Want, Reqs, Group, res_at}
use Rattle.resource_reqs.specs.Spelling.{Coord, alt, place, Place, res_of, Point, next_in, next, after, root, Picks, Spells, IsPlan}
use Rattle.resource_reqs.proofs.Fitting.{put_read, listed_read, skip_next}
use Rattle.trial_journal.specs.ByKind.{Lists}
use Rattle.assign_search.specs.declared.spots.Frame.{Frame}
use Rattle.assign_search.specs.declared.spots.Spot.{Spot}
use Rattle.assign_search.specs.declared.spots.Step.{Step}
use Rattle.assign_search.specs.declared.spots.Child.{Child}
use Rattle.assign_search.specs.Walking.{coord_of, coords, taken, kept, places_of, rest_of, plan_in, point_at, groups_at, movers_at, IsChild}
use Rattle.assign_search.proofs.Rest.{drop_next}
use Rattle.assign_search.proofs.Held.{choose_placed, longer}
use Rattle.assign_search.proofs.SameHeld.{SameSet, lists_res}
use Rattle.assign_search.proofs.Searching.{Pushed, Chain, Inv, grew, chain_push, coords_push, stands_child, found_child, begins_done}

abbrev point : List Place → List Group → List Reqs → Point
point placed groups movers = record { placed = placed; groups = groups; movers = movers }

-- the frames lead from the point to where nothing is left
abbrev pub Trail : Point → List Frame → Type 0
Trail at [] = (at.groups ≡ []) × AllByRecursion (λ reqs. reqs ≡ []) at.movers
Trail at (f ∷ fs) = (to : Point) × (next at (coord_of f.step) ≡ Some to) × Pushed at.placed f.res to.placed × Trail to fs

pub trail_of : (ms : List Reqs) (fs : List Frame) (at end : Point) → Chain ms at fs → after (coords fs) at ≡ Some end
    → end.groups ≡ [] → AllByRecursion (λ reqs. reqs ≡ []) end.movers → Trail at fs
trail_of ms [] at end chain leads groups movers =
    let same : at ≡ end = cc in
    (ap (λ z. z.groups) same ∙ groups, subst (AllByRecursion (λ reqs. reqs ≡ [])) (sym (ap (λ z. z.movers) same)) movers)
trail_of ms (f ∷ fs) at end (to, stands, chain) leads groups movers = (
  to,
  stands.goes,
  stands.pushed,
  trail_of ms fs to end chain (ap (λ o. option_and_then (after (coords fs)) o) (sym stands.goes) ∙ leads) groups movers,
)

record Cut (groups : List Group) (movers : List Reqs) (fs : List Frame) : Type 0 where
  picks : List Coord
  is : coords fs ≡ picks ++ coords (rest_of fs)
  picked : Picks groups picks (places_of fs)
  placed : List Place
  trail : Trail (point placed [] movers) (rest_of fs)

-- a frame that placed nothing cuts
cut_here : (placed : List Place) (movers : List Reqs) (f : Frame) (fs : List Frame) → f.res ≡ None → Trail (point placed [] movers) (f ∷ fs) → Cut [] movers (f ∷ fs)
cut_here placed movers f fs none trail =
    let rest : rest_of (f ∷ fs) ≡ f ∷ fs = ap (λ o. kept o (f ∷ fs) (rest_of fs)) none in
    let places : places_of (f ∷ fs) ≡ [] = ap (λ o. taken o (places_of fs)) none in
    record {
      picks = [];
      is = ap coords (sym rest);
      picked = subst (Picks [] []) (sym places) tt;
      placed = placed;
      trail = subst (Trail (point placed [] movers)) (sym rest) trail;
    }

cut_next : (group : Group) (groups : List Group) (movers : List Reqs) (f : Frame) (fs : List Frame) (w s : ℕ) (want : Want) (res : Res)
    → f.res ≡ Some res → coord_of f.step ≡ place w s → slice_get group w ≡ Some want → res ≡ res_at want s → Cut groups movers fs → Cut (group ∷ groups) movers (f ∷ fs)
cut_next group groups movers f fs w s want res some step read made cut =
    let rest : rest_of (f ∷ fs) ≡ rest_of fs = ap (λ o. kept o (f ∷ fs) (rest_of fs)) some in
    let places : places_of (f ∷ fs) ≡ res ∷ places_of fs = ap (λ o. taken o (places_of fs)) some in
    record {
      picks = place w s ∷ cut.picks;
      is = ap₂ (λ x l. x ∷ l) step (cut.is ∙ ap (λ l. cut.picks ++ coords l) (sym rest));
      picked = subst (Picks (group ∷ groups) (place w s ∷ cut.picks)) (sym places) ((want, read, made), cut.picked);
      placed = cut.placed;
      trail = subst (Trail (point cut.placed [] movers)) (sym rest) cut.trail;
    }

cut_all : (fs : List Frame) (placed : List Place) (groups : List Group) (movers : List Reqs) → Trail (point placed groups movers) fs → Cut groups movers fs
cut_all [] placed [] movers trail = record { picks = []; is = refl; picked = tt; placed = placed; trail = trail }
cut_all [] placed (g ∷ groups) movers trail = let e : g ∷ groups ≡ [] = trail.0 in cc
cut_all (f ∷ fs) placed [] movers (to, goes, pushed, trail) = go (coord_of f.step) f.res refl goes pushed
  where
    go : (c : Coord) (o : Option Res) → f.res ≡ o → next_in placed [] movers c ≡ Some to → Pushed placed o to.placed → Cut [] movers (f ∷ fs)
    go (place w s) o e goes' pushed' = cc
    go (alt i) None e goes' pushed' = cut_here placed movers f fs e (to, goes, pushed, trail)
    go (alt i) (Some res) e goes' (p, is, made) = absurd (longer p placed (sym is ∙ choose_placed placed movers i to goes'))
cut_all (f ∷ fs) placed (g ∷ groups) movers (to, goes, pushed, trail) = go (coord_of f.step) f.res refl refl goes pushed (λ placed' is. cut_all fs placed' groups movers (subst (λ z. Trail z fs) is trail))
  where
    go : (c : Coord) (o : Option Res) → coord_of f.step ≡ c → f.res ≡ o → next_in placed (g ∷ groups) movers c ≡ Some to → Pushed placed o to.placed
        → ((placed' : List Place) → to ≡ point placed' groups movers → Cut groups movers fs) → Cut (g ∷ groups) movers (f ∷ fs)
    go (alt i) o step e goes' pushed' more = cc
    go (place w s) None step e goes' pushed' more =
        let (want, read, is) = put_read placed groups movers s (slice_get g w) to goes' in
        absurd (longer (record { want = want; start = s }) placed (sym (ap (λ z. z.placed) is) ∙ pushed'))
    go (place w s) (Some res) step e goes' (p, pushed', made) more =
        let (want, read, is) = put_read placed groups movers s (slice_get g w) to goes' in
        let both : p ∷ placed ≡ record { want = want; start = s } ∷ placed = sym pushed' ∙ ap (λ z. z.placed) is in
        let same : p ≡ record { want = want; start = s } = cc in
        cut_next g groups movers f fs w s want res e step read (made ∙ ap res_of same) (more (record { want = want; start = s } ∷ placed) is)

-- the plan along the frames
pub spells_plan : (movers : List Reqs) (fs : List Frame) (placed : List Place) → Trail (point placed [] movers) fs → Spells movers (coords fs) (plan_in movers fs)
spells_plan [] [] placed trail = refl
spells_plan [] (f ∷ fs) placed (to, goes, pushed, trail) = go (coord_of f.step) goes
  where
    go : (c : Coord) → next_in placed [] [] c ≡ Some to → coords (f ∷ fs) ≡ []
    go (alt i) h = cc
    go (place w s) h = cc
spells_plan ([] ∷ movers) [] placed trail = (refl, spells_plan movers [] placed (refl, trail.1.1))
spells_plan ([] ∷ movers) (f ∷ fs) placed (to, goes, pushed, trail) =
    (refl, spells_plan movers (f ∷ fs) placed (to, sym (skip_next placed movers (coord_of f.step)) ∙ goes, pushed, trail))
spells_plan ((l ∷ ls) ∷ movers) [] placed trail = let e : l ∷ ls ≡ [] = trail.1.0 in cc
spells_plan ((l ∷ ls) ∷ movers) (f ∷ fs) placed (to, goes, pushed, trail) = go (coord_of f.step) refl goes (λ cut. spells_plan movers (rest_of fs) cut.placed cut.trail)
  where
    go : (c : Coord) → coord_of f.step ≡ c → next_in placed [] ((l ∷ ls) ∷ movers) c ≡ Some to
        → ((cut : Cut to.groups movers fs) → Spells movers (coords (rest_of fs)) (plan_in movers (rest_of fs))) → Spells ((l ∷ ls) ∷ movers) (coords (f ∷ fs)) (plan_in ((l ∷ ls) ∷ movers) (f ∷ fs))
    go (place w s) step h more = cc
    go (alt i) step h more =
        let (list, read, is) = listed_read placed movers (slice_get (l ∷ ls) i) to h in
        let here : Trail (point placed list movers) fs = subst (λ z. Trail z fs) is trail in
        let cut : Cut list movers fs = cut_all fs placed list movers here in
        let again : Cut to.groups movers fs = subst (λ g. Cut g movers fs) (sym (ap (λ z. z.groups) is)) cut in
        (i, list, cut.picks, coords (rest_of fs), ap₂ (λ x xs. x ∷ xs) step cut.is, read, cut.picked, more again)

-- a frame more, and no more
pub places_more : (fs : List Frame) (at : ℕ) (f : Frame) (res : Res) → slice_get fs at ≡ Some f → f.res ≡ Some res
    → (places_of (drop at fs) ≡ res ∷ places_of (drop (at + 1) fs)) × (rest_of (drop at fs) ≡ rest_of (drop (at + 1) fs))
places_more fs at f res read some =
    let split = drop_next fs at f read in (
      ap places_of split ∙ ap (λ o. taken o (places_of (drop (at + 1) fs))) some,
      ap rest_of split ∙ ap (λ o. kept o (f ∷ drop (at + 1) fs) (rest_of (drop (at + 1) fs))) some,
    )

pub places_stop : (fs : List Frame) (at : ℕ) (f : Frame) → slice_get fs at ≡ Some f → f.res ≡ None
    → (places_of (drop at fs) ≡ []) × (rest_of (drop at fs) ≡ drop at fs)
places_stop fs at f read none =
    let split = drop_next fs at f read in (
      ap places_of split ∙ ap (λ o. taken o (places_of (drop (at + 1) fs))) none,
      ap rest_of split ∙ ap (λ o. kept o (f ∷ drop (at + 1) fs) (rest_of (drop (at + 1) fs))) none ∙ sym split,
    )

pub places_end : (fs : List Frame) (at : ℕ) → length fs ≤ at → (places_of (drop at fs) ≡ []) × (rest_of (drop at fs) ≡ drop at fs)
places_end fs at past = let none : drop at fs ≡ [] = drop_all at fs past in (ap places_of none, ap rest_of none ∙ sym none)

pub has_frame : (fs : List Frame) (at : ℕ) → at < length fs → (f : Frame) × (slice_get fs at ≡ Some f)
has_frame [] at h = absurd (omega arith)
has_frame (f ∷ fs) zero h = (f, refl)
has_frame (f ∷ fs) (suc at) h = has_frame fs at (omega arith)

-- one mover's part of the plan, whatever the movers after it
pub part_none : (ms : List Reqs) (fs : List Frame) → plan_in ([] ∷ ms) fs ≡ [] ∷ plan_in ms fs
part_none ms fs = refl

pub part_end : (reqs : Reqs) (ms : List Reqs) (fs : List Frame) (at : ℕ) → length fs ≤ at → plan_in (reqs ∷ ms) (drop at fs) ≡ [] ∷ plan_in ms (drop at fs)
part_end reqs ms fs at past =
    let none : drop at fs ≡ [] = drop_all at fs past in
    ap (plan_in (reqs ∷ ms)) none ∙ here reqs ∙ ap (λ l. [] ∷ plan_in ms l) (sym none)
  where
    here : (reqs : Reqs) → plan_in (reqs ∷ ms) [] ≡ [] ∷ plan_in ms []
    here [] = refl
    here (l ∷ ls) = refl

pub part_next : (reqs : Reqs) (ms : List Reqs) (fs : List Frame) (at at' : ℕ) → 0 < length reqs → at < length fs
    → drop at' fs ≡ rest_of (drop (at + 1) fs) → plan_in (reqs ∷ ms) (drop at fs) ≡ places_of (drop (at + 1) fs) ∷ plan_in ms (drop at' fs)
part_next [] ms fs at at' some within rest = absurd (omega arith)
part_next (l ∷ ls) ms fs at at' some within rest =
    let (f, frame) = has_frame fs at within in
    ap (plan_in ((l ∷ ls) ∷ ms)) (drop_next fs at f frame) ∙ ap (λ x. places_of (drop (at + 1) fs) ∷ plan_in ms x) (sym rest)

-- one mover more
pub plan_more : (ms : List Reqs) (path : List Frame) (mover : ℕ) (reqs : Reqs) (plan : List (List Res)) (holds : List Res) (fs fs' : List Frame) → slice_get ms mover ≡ Some reqs
    → plan_in (reqs ∷ drop (mover + 1) ms) fs ≡ holds ∷ plan_in (drop (mover + 1) ms) fs'
    → plan ++ plan_in (drop mover ms) fs ≡ plan_in ms path
    → (plan ++ holds ∷ []) ++ plan_in (drop (mover + 1) ms) fs' ≡ plan_in ms path
plan_more ms path mover reqs plan holds fs fs' read part so_far =
    append_assoc plan (holds ∷ []) (plan_in (drop (mover + 1) ms) fs')
    ∙ ap (λ l. plan ++ l) (sym part) ∙ ap (λ l. plan ++ plan_in l fs) (sym (drop_next ms mover reqs read)) ∙ so_far

-- the plan of the path that a complete child ends
pub plan_found : (fixed : List Res) (ms : List Reqs) (base : Lists) (same_base : SameSet (lists_res base) fixed) (path : List Frame) (lists : Lists) (spot : Spot) (from : Step) (count : ℕ)
    → (inv : Inv fixed ms base path lists spot from count)
    → (child : Child) (f : Frame) (budget : ℕ) (is : IsChild (lists_res lists) ms (groups_at ms spot) (movers_at ms spot) (coord_of from) child)
    → f.before ≡ spot → f.step ≡ child.step → f.next ≡ child.next → f.res ≡ child.res
    → groups_at ms child.spot ≡ [] → AllByRecursion (λ reqs. reqs ≡ []) (movers_at ms child.spot) → count + 1 ≤ budget
    → IsPlan fixed ms budget (plan_in ms (path ++ f ∷ []))
plan_found fixed ms base same_base path lists spot from count inv child f budget is before step after_it res groups movers within =
    let g = grew fixed ms base same_base path lists spot from count inv child is in
    let chain = chain_push ms path (root ms) (point_at ms inv.placed spot) f (point_at ms g.placed child.spot) inv.chain inv.leads
    (stands_child fixed ms base same_base path lists spot from count inv child f is before step after_it res) in
    let leads : after (coords (path ++ f ∷ [])) (root ms) ≡ Some (point_at ms g.placed child.spot) =
    ap (λ l. after l (root ms)) (coords_push path f ∙ ap (λ s. coords path ++ coord_of s ∷ []) step) ∙ g.leads in
    let trail = trail_of ms (path ++ f ∷ []) (root ms) (point_at ms g.placed child.spot) chain leads groups movers in
    (coords (path ++ f ∷ []), found_child fixed ms base same_base path lists spot from count inv child f budget is step groups movers within, spells_plan ms (path ++ f ∷ []) [] trail)

-- the plan where the empty spelling is complete
pub plan_at_once : (fixed : List Res) (ms : List Reqs) (budget : ℕ) → AllByRecursion (λ reqs. reqs ≡ []) ms → IsPlan fixed ms budget (plan_in ms [])
plan_at_once fixed ms budget none = ([], begins_done fixed ms budget none, spells_plan ms [] [] (refl, none))
