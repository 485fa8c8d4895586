-- The state of the search, and each way that it goes on or ends.
use Rattle.std.proofs.Common.{◌≡◌, ◌↔◌, ℕ, Bool, ◌+◌, ◌≤◌, inl, inr, List, [], ◌∷◌, ◌++◌, Contains, Option, Some, None, IsTrue, option_and_then, refl, sym, ◌∙◌, ap, subst, arith}
use Rattle.std.specs.List.{AllByRecursion}
use Rattle.std.proofs.lemmas.List.Elements.{Contains-push_cases}
use Rattle.resource_reqs.specs.Resources.{Res, Reqs, Group}
use Rattle.resource_reqs.specs.Spelling.{Coord, alt, Place, res_of, Point, next_in, next, after, root, CleanPlaces, LiveAt, Clean, Live, Complete, IsFound, IsNoFit, IsAnswer, spent}
use Rattle.resource_reqs.proofs.Points.{after-append, live_prefix}
use Rattle.resource_reqs.proofs.Front.{Front, UpTo, NothingFrom, start, found, descend, dead, back, ends_no_fit, ends_found, ends_spent, ends_at_once, ends_empty}
use Rattle.trial_journal.specs.ByKind.{Lists, of_kind}
use Rattle.assign_search.specs.declared.spots.Spot.{Spot}
use Rattle.assign_search.specs.declared.spots.Spot.TheVariants.{Between}
use Rattle.assign_search.specs.declared.spots.Step.{Step}
use Rattle.assign_search.specs.declared.spots.Step.TheVariants.{Alt}
use Rattle.assign_search.specs.declared.spots.Child.{Child}
use Rattle.assign_search.specs.declared.spots.Frame.{Frame}
use Rattle.assign_search.specs.Walking.{coord_of, coords, groups_at, movers_at, point_at, IsSpot, IsOpenCoord, Goes, IsChild, NoChild, NextOpen, HasOpen, AllOpen, HasOpenList, Adds, lists_holding, trial}
use Rattle.assign_search.specs.Watching.{Within}
use Rattle.assign_search.proofs.Held.{held_of, clean_of_open, live_of_open, open_of_live, open_at, later_next, groups_next}
use Rattle.assign_search.proofs.SameHeld.{SameSet, lists_res, board_of, board_same, child_same, no_child_same, all_open_same, lists_same, same_back, put_there, holding_once}

-- what a step placed
abbrev pub Pushed : List Place → Option Res → List Place → Type 0
Pushed placed None placed' = placed' ≡ placed
Pushed placed (Some res) placed' = (p : Place) × (placed' ≡ p ∷ placed) × (res ≡ res_of p)

-- the frames of a path stand where its coordinates lead
pub record Stands (ms : List Reqs) (at : Point) (f : Frame) (to : Point) : Type 0 where
  pub groups : at.groups ≡ groups_at ms f.before
  pub movers : at.movers ≡ movers_at ms f.before
  pub spot : IsSpot ms f.before
  pub next_one : NextOpen at.groups at.movers (coord_of f.step) (coord_of f.next)
  pub goes : next at (coord_of f.step) ≡ Some to
  pub pushed : Pushed at.placed f.res to.placed

abbrev pub Chain : List Reqs → Point → List Frame → Type 0
Chain ms at [] = Unit {0}
Chain ms at (f ∷ fs) = (to : Point) × Stands ms at f to × Chain ms to fs

pub chain_push : (ms : List Reqs) (fs : List Frame) (at end : Point) (f : Frame) (to : Point) → Chain ms at fs → after (coords fs) at ≡ Some end → Stands ms end f to → Chain ms at (fs ++ f ∷ [])
chain_push ms [] at end f to chain leads stands =
    let same : at ≡ end = cc in (to, subst (λ z. Stands ms z f to) (sym same) stands, tt)
chain_push ms (g ∷ fs) at end f to (mid, first, rest) leads stands =
    (mid, first, chain_push ms fs mid end f to rest (ap (λ o. option_and_then (after (coords fs)) o) (sym first.goes) ∙ leads) stands)

chain_pop : (ms : List Reqs) (fs : List Frame) (at : Point) (f : Frame) → Chain ms at (fs ++ f ∷ [])
    → Chain ms at fs × ((end : Point) × (to : Point) × (after (coords fs) at ≡ Some end) × Stands ms end f to)
chain_pop ms [] at f (to, stands, none) = (tt, (at, to, refl, stands))
chain_pop ms (g ∷ fs) at f (mid, first, rest) =
    let (chain, (end, to, leads, stands)) = chain_pop ms fs mid f rest in
    ((mid, first, chain), (end, to, ap (λ o. option_and_then (after (coords fs)) o) first.goes ∙ leads, stands))

pub coords_push : (fs : List Frame) (f : Frame) → coords (fs ++ f ∷ []) ≡ coords fs ++ coord_of f.step ∷ []
coords_push [] f = refl
coords_push (g ∷ fs) f = ap (λ l. coord_of g.step ∷ l) (coords_push fs f)

board_pushed : (base : Lists) (placed : List Place) (res : Option Res) (placed' : List Place) → Pushed placed res placed' → lists_holding (board_of base placed) res ≡ board_of base placed'
board_pushed base placed None placed' is = ap (board_of base) (sym is)
board_pushed base placed (Some res) placed' (p, is, made) = ap (λ r. lists_holding (board_of base placed) (Some r)) made ∙ ap (board_of base) (sym is)

pub record Inv (fixed : List Res) (ms : List Reqs) (base : Lists) (path : List Frame) (lists : Lists) (spot : Spot) (from : Step) (count : ℕ) : Type 0 where
  pub placed : List Place
  pub leads : after (coords path) (root ms) ≡ Some (point_at ms placed spot)
  pub holds : lists ≡ board_of base placed
  pub live : LiveAt fixed (point_at ms placed spot)
  pub front : Front fixed ms (coords path) (coord_of from) count
  pub chain : Chain ms (root ms) path
  pub stands : IsSpot ms spot

-- the point to which a child leads
pub record Grew (fixed : List Res) (ms : List Reqs) (base : Lists) (p : List Coord) (lists : Lists) (before : Spot) (old : List Place) (child : Child) : Type 0 where
  pub placed : List Place
  pub leads : after (p ++ coord_of child.step ∷ []) (root ms) ≡ Some (point_at ms placed child.spot)
  pub goes : next (point_at ms old before) (coord_of child.step) ≡ Some (point_at ms placed child.spot)
  pub pushed : Pushed old child.res placed
  pub holds : lists_holding lists child.res ≡ board_of base placed
  pub clean : CleanPlaces fixed placed

goes_to : (ms : List Reqs) (placed : List Place) (groups : List Group) (movers : List Reqs) (c : Coord) (spot : Spot) (res : Option Res) → Goes ms groups movers c spot res
    → (placed' : List Place) × (next_in placed groups movers c ≡ Some (point_at ms placed' spot)) × Pushed placed res placed'
goes_to ms placed groups movers c spot None goes = (placed, goes placed, refl)
goes_to ms placed groups movers c spot (Some res) (want, s, made, goes) =
    (record { want = want; start = s } ∷ placed, goes placed, (record { want = want; start = s }, refl, made))

-- a resource that a child places is held beside what was held
adds_placed : (fixed : List Res) (placed placed' : List Place) (res : Res) (held : List Res) → Pushed placed (Some res) placed' → SameSet held (held_of fixed placed') → Adds (held_of fixed placed) res held
adds_placed fixed placed placed' res held (p, is, made) same other inside =
    elim (Contains-push_cases (held_of fixed placed) (res_of p) other (subst (λ l. Contains (held_of fixed l) other) is ((same other).0 inside))) [
      | inl old ↦ inl old
      | inr e ↦ inr (made ∙ e)
    ]

module _ (fixed : List Res) (ms : List Reqs) (base : Lists) (same_base : SameSet (lists_res base) fixed) (path : List Frame) (lists : Lists) (spot : Spot) (from : Step) (count : ℕ)
    (inv : Inv fixed ms base path lists spot from count) where
  pub held_now : SameSet (lists_res lists) (held_of fixed inv.placed)
  held_now = subst (λ l. SameSet (lists_res l) (held_of fixed inv.placed)) (sym inv.holds) (board_same base fixed inv.placed same_base)

  abbrev pub Next : Child → Type 0
  Next child = IsChild (lists_res lists) ms (groups_at ms spot) (movers_at ms spot) (coord_of from) child

  abbrev pub None_left : Type 0
  None_left = NoChild (lists_res lists) (groups_at ms spot) (movers_at ms spot) (coord_of from)

  child_now : (child : Child) → Next child → IsChild (held_of fixed inv.placed) ms (groups_at ms spot) (movers_at ms spot) (coord_of from) child
  child_now child is = child_same (lists_res lists) (held_of fixed inv.placed) held_now ms (groups_at ms spot) (movers_at ms spot) (coord_of from) child is

  pub grew : (child : Child) → Next child → Grew fixed ms base (coords path) lists spot inv.placed child
  grew child is =
      let (placed', goes, pushed) = goes_to ms inv.placed (groups_at ms spot) (movers_at ms spot) (coord_of child.step) child.spot child.res is.goes in
      let now = child_now child is in
      record {
        placed = placed';
        leads = after-append (coords path) (coord_of child.step ∷ []) (root ms)
            ∙ ap (λ o. option_and_then (after (coord_of child.step ∷ [])) o) inv.leads
            ∙ ap (λ o. option_and_then (after []) o) goes;
        goes = goes;
        pushed = pushed;
        holds = ap (λ l. lists_holding l child.res) inv.holds ∙ board_pushed base inv.placed child.res placed' pushed;
        clean = clean_of_open fixed inv.placed (groups_at ms spot) (movers_at ms spot) (coord_of child.step) (point_at ms placed' child.spot) inv.live.clean goes now.is_open;
      }

  -- a clean extension of the path is an open coordinate
  open_extension : (x : Coord) → Clean fixed ms (coords path ++ x ∷ []) → IsOpenCoord (held_of fixed inv.placed) (groups_at ms spot) (movers_at ms spot) x
  open_extension x clean = open_at fixed ms (coords path) (point_at ms inv.placed spot) inv.leads x clean

  pub upto : (child : Child) → Next child → UpTo fixed ms (coords path ++ coord_of child.step ∷ []) (count + 1)
  upto child is =
      let g = grew child is in
      let now = child_now child is in
      found fixed ms (coords path) (coord_of from) (coord_of child.step) count inv.front (point_at ms inv.placed spot, inv.leads, inv.live)
      (point_at ms g.placed child.spot, g.leads, g.clean) is.after
      (λ x above below clean. now.least x above below (open_extension x clean))

  nothing_left : None_left → NothingFrom fixed ms (coords path) (coord_of from)
  nothing_left none x above clean =
      no_child_same (lists_res lists) (held_of fixed inv.placed) held_now (groups_at ms spot) (movers_at ms spot) (coord_of from) none x above (open_extension x clean)

  -- a child with nothing left to spell
  complete_child : (child : Child) (is : Next child)
      → groups_at ms child.spot ≡ [] → AllByRecursion (λ reqs. reqs ≡ []) (movers_at ms child.spot) → Complete fixed ms (coords path ++ coord_of child.step ∷ [])
  complete_child child is groups movers =
      let g = grew child is in (point_at ms g.placed child.spot, g.leads, record { clean = g.clean; no_group = groups; no_list = movers })

  pub found_child : (child : Child) (f : Frame) (budget : ℕ) → Next child
      → f.step ≡ child.step → groups_at ms child.spot ≡ [] → AllByRecursion (λ reqs. reqs ≡ []) (movers_at ms child.spot) → count + 1 ≤ budget
      → IsFound fixed ms budget (coords (path ++ f ∷ []))
  found_child child f budget is same groups movers within =
      subst (IsFound fixed ms budget) (sym (coords_push path f ∙ ap (λ s. coords path ++ coord_of s ∷ []) same)) (record {
        least = ends_found fixed ms (coords path ++ coord_of child.step ∷ []) (count + 1) (upto child is) (complete_child child is groups movers);
        count = count + 1;
        counted = (upto child is).counted;
        within = within;
      })

  pub spent_child : (child : Child) (budget : ℕ) → Next child → budget ≤ count → IsAnswer fixed ms budget spent
  spent_child child budget is over = ends_spent fixed ms (coords path ++ coord_of child.step ∷ []) (count + 1) budget (upto child is) (omega arith)

  -- the point to which the child leads is the only one
  point_is : (child : Child) (g : Grew fixed ms base (coords path) lists spot inv.placed child) (at : Point) → after (coords path ++ coord_of child.step ∷ []) (root ms) ≡ Some at → point_at ms g.placed child.spot ≡ at
  point_is child g at leads = let there = g.leads in cc

  pub stands_child : (child : Child) (f : Frame) (is : Next child) → f.before ≡ spot → f.step ≡ child.step → f.next ≡ child.next → f.res ≡ child.res
      → Stands ms (point_at ms inv.placed spot) f (point_at ms (grew child is).placed child.spot)
  stands_child child f is before step after_it res =
      let g = grew child is in
      record {
        groups = ap (groups_at ms) (sym before);
        movers = ap (movers_at ms) (sym before);
        spot = subst (IsSpot ms) (sym before) inv.stands;
        next_one = subst (λ s. NextOpen (groups_at ms spot) (movers_at ms spot) (coord_of s) (coord_of f.next)) (sym step)
            (subst (λ s. NextOpen (groups_at ms spot) (movers_at ms spot) (coord_of child.step) (coord_of s)) (sym after_it) is.next);
        goes = ap (λ s. next (point_at ms inv.placed spot) (coord_of s)) step ∙ g.goes;
        pushed = subst (λ r. Pushed inv.placed r g.placed) (sym res) g.pushed;
      }

  -- what the look ahead says of a child, of what is held then
  pub live_now : (child : Child) (is : Next child) (lists' : Lists) (r : Bool) → lists' ≡ lists_holding lists child.res
      → (child.res ≡ None → AllByRecursion (HasOpenList (lists_res lists')) (movers_at ms child.spot) → IsTrue r ↔ AllOpen (lists_res lists') (groups_at ms child.spot))
      → ((res : Res) (before : List Res) → child.res ≡ Some res → Within before (lists_res lists) → Adds before res (lists_res lists') → AllOpen before (groups_at ms child.spot)
      → AllByRecursion (HasOpenList before) (movers_at ms child.spot)
      → IsTrue r ↔ (AllOpen (lists_res lists') (groups_at ms child.spot) × AllByRecursion (HasOpenList (lists_res lists')) (movers_at ms child.spot)))
      → IsTrue r ↔ (AllOpen (held_of fixed (grew child is).placed) (groups_at ms child.spot) × AllByRecursion (HasOpenList (held_of fixed (grew child is).placed)) (movers_at ms child.spot))
  live_now child is lists' r holds listed placed = go child.res refl g.pushed
    where
      g : Grew fixed ms base (coords path) lists spot inv.placed child
      g = grew child is

      same : SameSet (lists_res lists') (held_of fixed (grew child is).placed)
      same = subst (λ l. SameSet (lists_res l) (held_of fixed (grew child is).placed)) (sym (holds ∙ g.holds)) (board_same base fixed (grew child is).placed same_base)

      old : AllOpen (held_of fixed inv.placed) (groups_at ms spot) × AllByRecursion (HasOpenList (held_of fixed inv.placed)) (movers_at ms spot)
      old = open_of_live fixed (point_at ms inv.placed spot) inv.live

      later : AllByRecursion (HasOpenList (held_of fixed inv.placed)) (movers_at ms child.spot)
      later = later_next (HasOpenList (held_of fixed inv.placed)) inv.placed (groups_at ms spot) (movers_at ms spot) (coord_of child.step) (point_at ms g.placed child.spot) g.goes old.1

      to_held : AllOpen (lists_res lists') (groups_at ms child.spot) → AllOpen (held_of fixed (grew child is).placed) (groups_at ms child.spot)
      to_held h = all_open_same (lists_res lists') (held_of fixed (grew child is).placed) same (groups_at ms child.spot) h

      from_held : AllOpen (held_of fixed (grew child is).placed) (groups_at ms child.spot) → AllOpen (lists_res lists') (groups_at ms child.spot)
      from_held h = all_open_same (held_of fixed (grew child is).placed) (lists_res lists') (same_back (lists_res lists') (held_of fixed (grew child is).placed) same) (groups_at ms child.spot) h

      lists_to : AllByRecursion (HasOpenList (lists_res lists')) (movers_at ms child.spot) → AllByRecursion (HasOpenList (held_of fixed (grew child is).placed)) (movers_at ms child.spot)
      lists_to h = lists_same (lists_res lists') (held_of fixed (grew child is).placed) same (movers_at ms child.spot) h

      lists_from : AllByRecursion (HasOpenList (held_of fixed (grew child is).placed)) (movers_at ms child.spot) → AllByRecursion (HasOpenList (lists_res lists')) (movers_at ms child.spot)
      lists_from h = lists_same (held_of fixed (grew child is).placed) (lists_res lists') (same_back (lists_res lists') (held_of fixed (grew child is).placed) same) (movers_at ms child.spot) h

      go : (o : Option Res) → child.res ≡ o → Pushed inv.placed o (grew child is).placed
          → IsTrue r ↔ (AllOpen (held_of fixed (grew child is).placed) (groups_at ms child.spot) × AllByRecursion (HasOpenList (held_of fixed (grew child is).placed)) (movers_at ms child.spot))
      go None e pushed =
          let open_lists : AllByRecursion (HasOpenList (held_of fixed (grew child is).placed)) (movers_at ms child.spot) =
          subst (λ l. AllByRecursion (HasOpenList (held_of fixed l)) (movers_at ms child.spot)) (sym pushed) later in
          let by = listed e (lists_from open_lists) in
          (λ h. (to_held (by.0 h), open_lists), λ both. by.1 (from_held both.0))
      go (Some res) e (p, is_placed, made) =
          let by = placed res (held_of fixed inv.placed) e (λ x h. (held_now x).1 h) (adds_placed fixed inv.placed (grew child is).placed res (lists_res lists') (p, is_placed, made) same)
          (groups_next (HasOpen (held_of fixed inv.placed)) inv.placed (groups_at ms spot) (movers_at ms spot) (coord_of child.step) (point_at ms (grew child is).placed child.spot) p g.goes is_placed old.0) later in
          (λ h. (to_held (by.0 h).0, lists_to (by.0 h).1), λ both. by.1 (from_held both.0, lists_from both.1))

  pub live_child : (child : Child) (f : Frame) (lists' : Lists) (is : Next child)
      → f.before ≡ spot → f.step ≡ child.step → f.next ≡ child.next → f.res ≡ child.res → lists' ≡ lists_holding lists child.res
      → ((groups_at ms child.spot ≡ []) × AllByRecursion (λ reqs. reqs ≡ []) (movers_at ms child.spot) → ⊥)
      → AllOpen (held_of fixed (grew child is).placed) (groups_at ms child.spot) → AllByRecursion (HasOpenList (held_of fixed (grew child is).placed)) (movers_at ms child.spot)
      → Inv fixed ms base (path ++ f ∷ []) lists' child.spot (Alt 0) (count + 1)
  live_child child f lists' is before step after_it res holds lacks groups movers =
      let g = grew child is in
      let path_is : coords (path ++ f ∷ []) ≡ coords path ++ coord_of child.step ∷ [] = coords_push path f ∙ ap (λ s. coords path ++ coord_of s ∷ []) step in
      record {
        placed = g.placed;
        leads = ap (λ l. after l (root ms)) path_is ∙ g.leads;
        holds = holds ∙ g.holds;
        live = live_of_open fixed (point_at ms g.placed child.spot) g.clean groups movers;
        front = subst (λ l. Front fixed ms l (alt 0) (count + 1)) (sym path_is)
            (descend fixed ms (coords path ++ coord_of child.step ∷ []) (count + 1) (upto child is) (λ whole. incomplete g whole));
        chain = chain_push ms path (root ms) (point_at ms inv.placed spot) f (point_at ms g.placed child.spot) inv.chain inv.leads (stands_child child f is before step after_it res);
        stands = is.spot;
      }
    where
      incomplete : Grew fixed ms base (coords path) lists spot inv.placed child → Complete fixed ms (coords path ++ coord_of child.step ∷ []) → ⊥
      incomplete g (at, leads, whole) =
          let same = point_is child g at leads in
          lacks (ap (λ z. z.groups) same ∙ whole.no_group, subst (AllByRecursion (λ reqs. reqs ≡ [])) (sym (ap (λ z. z.movers) same)) whole.no_list)

  pub dead_child : (child : Child) (is : Next child)
      → (AllOpen (held_of fixed (grew child is).placed) (groups_at ms child.spot) × AllByRecursion (HasOpenList (held_of fixed (grew child is).placed)) (movers_at ms child.spot) → ⊥)
      → Inv fixed ms base path lists spot child.next (count + 1)
  dead_child child is lacks =
      let g = grew child is in
      record {
        placed = inv.placed;
        leads = inv.leads;
        holds = inv.holds;
        live = inv.live;
        chain = inv.chain;
        stands = inv.stands;
        front = dead fixed ms (coords path) (coord_of child.step) (coord_of child.next) (count + 1) (upto child is) (λ live. not_live live)
            (record { later = is.next.later; at_once = λ x h k clean. is.next.at_once (held_of fixed inv.placed) x h k (open_extension x clean) });
      }
    where
      not_live : Live fixed ms (coords path ++ coord_of child.step ∷ []) → ⊥
      not_live (at, leads, live) =
          let same = point_is child (grew child is) at leads in
          lacks (open_of_live fixed (point_at ms (grew child is).placed child.spot) (subst (LiveAt fixed) (sym same) live))

-- the last frame of a path, and where it stood
record Last (fixed : List Res) (ms : List Reqs) (base : Lists) (path : List Frame) (f : Frame) (lists : Lists) (spot : Spot) (placed : List Place) : Type 0 where
  before : List Place
  chain : Chain ms (root ms) path
  leads : after (coords path) (root ms) ≡ Some (point_at ms before f.before)
  spot_is : IsSpot ms f.before
  next_one : NextOpen (groups_at ms f.before) (movers_at ms f.before) (coord_of f.step) (coord_of f.next)
  holds : lists ≡ lists_holding (board_of base before) f.res

last_of : (fixed : List Res) (ms : List Reqs) (base : Lists) (path : List Frame) (f : Frame) (lists : Lists) (spot : Spot) (from : Step) (count : ℕ)
    → (inv : Inv fixed ms base (path ++ f ∷ []) lists spot from count) → Last fixed ms base path f lists spot inv.placed
last_of fixed ms base path f lists spot from count inv =
    let (chain, (end, to, leads, stands)) = chain_pop ms path (root ms) f inv.chain in
    let path_is : coords (path ++ f ∷ []) ≡ coords path ++ coord_of f.step ∷ [] = coords_push path f in
    let there : after (coords path ++ coord_of f.step ∷ []) (root ms) ≡ Some (point_at ms inv.placed spot) = ap (λ l. after l (root ms)) (sym path_is) ∙ inv.leads in
    let split : after (coords path ++ coord_of f.step ∷ []) (root ms) ≡ Some to =
    after-append (coords path) (coord_of f.step ∷ []) (root ms) ∙ ap (λ o. option_and_then (after (coord_of f.step ∷ [])) o) leads
    ∙ ap (λ o. option_and_then (after []) o) stands.goes in
    let to_is : to ≡ point_at ms inv.placed spot = cc in
    let end_is : end ≡ point_at ms end.placed f.before = same_point end (groups_at ms f.before) (movers_at ms f.before) stands.groups stands.movers in
    record {
      before = end.placed;
      chain = chain;
      leads = leads ∙ ap Some end_is;
      spot_is = stands.spot;
      next_one = subst (λ (g : List Group). NextOpen g (movers_at ms f.before) (coord_of f.step) (coord_of f.next)) stands.groups
          (subst (λ (m : List Reqs). NextOpen end.groups m (coord_of f.step) (coord_of f.next)) stands.movers stands.next_one);
      holds = inv.holds ∙ ap (board_of base) (sym (ap (λ z. z.placed) to_is)) ∙ sym (board_pushed base end.placed f.res to.placed stands.pushed);
    }
  where
    same_point : (z : Point) (groups : List Group) (movers : List Reqs) → z.groups ≡ groups → z.movers ≡ movers → z ≡ record { placed = z.placed; groups = groups; movers = movers }
    same_point z groups movers g m = subst (λ x. z ≡ record { placed = z.placed; groups = x; movers = movers }) g
        (subst (λ y. z ≡ record { placed = z.placed; groups = z.groups; movers = y }) m refl)

-- the last frame is taken off where nothing is left after it
pub back_to : (fixed : List Res) (ms : List Reqs) (base : Lists) (same_base : SameSet (lists_res base) fixed) (path : List Frame) (f : Frame) (lists lists' : Lists) (spot : Spot) (from : Step) (count : ℕ)
    → Inv fixed ms base (path ++ f ∷ []) lists spot from count
    → NoChild (lists_res lists) (groups_at ms spot) (movers_at ms spot) (coord_of from)
    → lists_holding lists' f.res ≡ lists
    → Inv fixed ms base path lists' f.before f.next count
back_to fixed ms base same_base path f lists lists' spot from count inv none released =
    let last = last_of fixed ms base path f lists spot from count inv in
    let path_is : coords (path ++ f ∷ []) ≡ coords path ++ coord_of f.step ∷ [] = coords_push path f in
    let there : after (coords path ++ coord_of f.step ∷ []) (root ms) ≡ Some (point_at ms inv.placed spot) = ap (λ l. after l (root ms)) (sym path_is) ∙ inv.leads in
    let live_there : Live fixed ms (coords path ++ coord_of f.step ∷ []) = (point_at ms inv.placed spot, there, inv.live) in
    let (at, at_leads, at_live) = live_prefix fixed ms (coords path) (coord_of f.step ∷ []) live_there in
    let leads = last.leads in
    let at_is : at ≡ point_at ms last.before f.before = cc in
    record {
      placed = last.before;
      leads = last.leads;
      holds = holding_once lists' (board_of base last.before) f.res (released ∙ last.holds);
      live = subst (LiveAt fixed) at_is at_live;
      front = back fixed ms (coords path) (coord_of f.step) (coord_of from) (coord_of f.next) count
          (subst (λ l. Front fixed ms l (coord_of from) count) path_is inv.front)
          (subst (λ l. NothingFrom fixed ms l (coord_of from)) path_is (nothing_left fixed ms base same_base (path ++ f ∷ []) lists spot from count inv none))
          (record {
            later = last.next_one.later;
            at_once = λ x h k clean. last.next_one.at_once (held_of fixed last.before) x h k (open_at fixed ms (coords path) (point_at ms last.before f.before) last.leads x clean);
          });
      chain = last.chain;
      stands = last.spot_is;
    }

-- what was put in is held
pub there : (l m : Lists) (o : Option Res) → m ≡ lists_holding l o → (r : Res) → o ≡ Some r → Contains (of_kind m r.kind) (trial, r)
there l m o is r some =
    subst (λ (x : Lists). Contains (of_kind x r.kind) (trial, r)) (sym (is ∙ ap (lists_holding l) some)) (put_there l r.kind (trial, r))

-- what the last frame placed is held
pub last_there : (fixed : List Res) (ms : List Reqs) (base : Lists) (path : List Frame) (f : Frame) (lists : Lists) (spot : Spot) (from : Step) (count : ℕ)
    → Inv fixed ms base (path ++ f ∷ []) lists spot from count → (r : Res) → f.res ≡ Some r → Contains (of_kind lists r.kind) (trial, r)
last_there fixed ms base path f lists spot from count inv =
    let last = last_of fixed ms base path f lists spot from count inv in there (board_of base last.before) lists f.res last.holds

-- nothing is left at all
pub ends_none : (fixed : List Res) (ms : List Reqs) (base : Lists) → SameSet (lists_res base) fixed → (lists : Lists) (spot : Spot) (from : Step) (count budget : ℕ) → Inv fixed ms base [] lists spot from count
    → NoChild (lists_res lists) (groups_at ms spot) (movers_at ms spot) (coord_of from) → count ≤ budget → IsNoFit fixed ms budget
ends_none fixed ms base same lists spot from count budget inv none within =
    ends_no_fit fixed ms (coord_of from) count budget inv.front (nothing_left fixed ms base same [] lists spot from count inv none) within

-- the beginning
pub begins : (ms : List Reqs) (base : Lists) → (AllByRecursion (λ reqs. reqs ≡ []) ms → ⊥)
    → AllByRecursion (HasOpenList (lists_res base)) ms → Inv (lists_res base) ms base [] base (Between 0) (Alt 0) 0
begins ms base lacks lists = record {
  placed = [];
  leads = refl;
  holds = refl;
  live = live_of_open (lists_res base) (point_at ms [] (Between 0)) tt tt lists;
  front = start (lists_res base) ms (λ whole. incomplete whole);
  chain = tt;
  stands = omega arith;
}
  where
    incomplete : Complete (lists_res base) ms [] → ⊥
    incomplete (at, leads, whole) =
        let same : root ms ≡ at = cc in
        lacks (subst (AllByRecursion (λ reqs. reqs ≡ [])) (sym (ap (λ z. z.movers) same)) whole.no_list)

pub begins_dead : (fixed : List Res) (ms : List Reqs) (budget : ℕ) → (AllByRecursion (HasOpenList fixed) ms → ⊥) → IsNoFit fixed ms budget
begins_dead fixed ms budget lacks = ends_at_once fixed ms budget (λ live. no live)
  where
    no : Live fixed ms [] → ⊥
    no (at, leads, live) =
        let same : root ms ≡ at = cc in
        lacks (open_of_live fixed (root ms) (subst (LiveAt fixed) (sym same) live)).1

pub begins_done : (fixed : List Res) (ms : List Reqs) (budget : ℕ) → AllByRecursion (λ reqs. reqs ≡ []) ms → IsFound fixed ms budget []
begins_done fixed ms budget none = ends_empty fixed ms budget (root ms, refl, record { clean = tt; no_group = refl; no_list = none })

pub same_itself : (l : List Res) → SameSet l l
same_itself l r = (λ h. h, λ h. h)
