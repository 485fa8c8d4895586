-- What the steps of the search are, for the contracts of its parts. No public contract cites this.
use Rattle.std.specs.Prelude.{◌≡◌, ℕ, ◌+◌, ◌<◌, ◌≤◌, ◌⊎◌, List, [], ◌∷◌, map, drop, length, slice_get, get_or, Contains, Option, Some, None, IsSome, IsTrue}
use Rattle.std.specs.List.{AllByRecursion}
use Rattle.resource_reqs.specs.Resources.{Res, Want, IsOpen, Group, AltList, Reqs, res_at}
use Rattle.resource_reqs.specs.Spelling.{Coord, alt, place, Less, Place, Point, choose, next_in}
use Rattle.resource_reqs.specs.declared.kind.Kind.{Kind}
use Rattle.resource_reqs.specs.declared.owner.Owner.{Owner}
use Rattle.resource_reqs.specs.declared.owner.Owner.TheVariants.{Device}
use Rattle.range_arbiter.specs.Pairs.{Pair, pairs_with, res_list}
use Rattle.trial_journal.specs.ByKind.{Arbiters, Lists, of_kind, with_kind, all_pairs}
use Rattle.assign_search.specs.declared.spots.Step.{Step}
use Rattle.assign_search.specs.declared.spots.Step.TheVariants.{Alt, At}
use Rattle.assign_search.specs.declared.spots.Spot.{Spot}
use Rattle.assign_search.specs.declared.spots.Spot.TheVariants.{Between, Inside}
use Rattle.assign_search.specs.declared.spots.Child.{Child}
use Rattle.assign_search.specs.declared.spots.Frame.{Frame}

-- the resources that all arbiters hold
abbrev pub held_in : Arbiters → List Res
held_in a = res_list (all_pairs a)

-- the want of this number has this open place
abbrev pub OpenPick : List Res → Group → ℕ → ℕ → Type 0
OpenPick held group w start = (want : Want) × (slice_get group w ≡ Some want) × IsOpen held want start

-- some want has an open place
abbrev pub HasOpen : List Res → Group → Type 0
HasOpen held group = (w : ℕ) × (start : ℕ) × OpenPick held group w start

abbrev pub AllOpen : List Res → AltList → Type 0
AllOpen held list = AllByRecursion (HasOpen held) list

-- no lists, or one whose every group has a want with an open place
abbrev pub HasOpenList : List Res → Reqs → Type 0
HasOpenList held reqs = (reqs ≡ []) ⊎ ((k : ℕ) × (list : AltList) × (slice_get reqs k ≡ Some list) × AllOpen held list)

-- from a coordinate to another there is no open place in the group
abbrev pub NoPick : List Res → Group → Coord → Coord → Type 0
NoPick held group from to = (v t : ℕ) → (Less (place v t) from → ⊥) → Less (place v t) to → OpenPick held group v t → ⊥

abbrev pub NoPickFrom : List Res → Group → Coord → Type 0
NoPickFrom held group from = (v t : ℕ) → (Less (place v t) from → ⊥) → OpenPick held group v t → ⊥

abbrev pub coord_of : Step → Coord
coord_of (Alt i) = alt i
coord_of (At w s) = place w s

-- the second comes after the place, and none between them is open, whatever is held
pub record NextPick (group : Group) (w start : ℕ) (next : Coord) : Type 0 where
  pub later : Less (place w start) next
  pub at_once : (held : List Res) (v t : ℕ) → Less (place v t) next → Less (place w start) (place v t) → OpenPick held group v t → ⊥

-- from one mover on nothing differs from another one on: those between have no lists
pub record SameFrom (movers : List Reqs) (from to : ℕ) : Type 0 where
  pub choosing : (placed : List Place) (i : ℕ) → choose placed (drop from movers) i ≡ choose placed (drop to movers) i
  pub nothing : AllByRecursion (λ reqs. reqs ≡ []) (drop to movers) → AllByRecursion (λ reqs. reqs ≡ []) (drop from movers)
  pub no_more : AllByRecursion (λ reqs. reqs ≡ []) (drop from movers) → AllByRecursion (λ reqs. reqs ≡ []) (drop to movers)

-- the groups that are left of the mover in hand, and the movers after it
abbrev pub groups_at : List Reqs → Spot → List Group
groups_at movers (Between mover) = []
groups_at movers (Inside mover list group) = drop group (get_or (get_or movers mover []) list [])

abbrev pub movers_at : List Reqs → Spot → List Reqs
movers_at movers (Between mover) = drop mover movers
movers_at movers (Inside mover list group) = drop (mover + 1) movers

abbrev pub point_at : List Reqs → List Place → Spot → Point
point_at movers placed spot = record { placed = placed; groups = groups_at movers spot; movers = movers_at movers spot }

-- the spot is one of these movers
abbrev pub IsSpot : List Reqs → Spot → Type 0
IsSpot movers (Between mover) = mover ≤ length movers
IsSpot movers (Inside mover list group) = (mover < length movers) × (list < length (get_or movers mover []))

-- the coordinate goes on, and its place, if it is one, is open
abbrev pub IsOpenCoord : List Res → List Group → List Reqs → Coord → Type 0
IsOpenCoord held [] movers (alt i) = IsSome (choose [] movers i)
IsOpenCoord held (group ∷ groups) movers (place w start) = OpenPick held group w start
IsOpenCoord held [] movers (place w start) = ⊥
IsOpenCoord held (group ∷ groups) movers (alt i) = ⊥

-- where a coordinate leads, with what it places
abbrev pub Goes : List Reqs → List Group → List Reqs → Coord → Spot → Option Res → Type 0
Goes all groups movers c spot None = (placed : List Place) → next_in placed groups movers c ≡ Some (point_at all placed spot)
Goes all groups movers c spot (Some res) = (want : Want) × (start : ℕ) × (res ≡ res_at want start)
    × ((placed : List Place) → next_in placed groups movers c ≡ Some (point_at all (record { want = want; start = start } ∷ placed) spot))

-- the second coordinate comes after the first, and none between them is open, whatever is held
pub record NextOpen (groups : List Group) (movers : List Reqs) (c next : Coord) : Type 0 where
  pub later : Less c next
  pub at_once : (held : List Res) (x : Coord) → Less x next → Less c x → IsOpenCoord held groups movers x → ⊥

-- the first coordinate from this one on that is open
pub record IsChild (held : List Res) (all : List Reqs) (groups : List Group) (movers : List Reqs) (from : Coord) (child : Child) : Type 0 where
  pub is_open : IsOpenCoord held groups movers (coord_of child.step)
  pub after : Less (coord_of child.step) from → ⊥
  pub least : (x : Coord) → (Less x from → ⊥) → Less x (coord_of child.step) → IsOpenCoord held groups movers x → ⊥
  pub goes : Goes all groups movers (coord_of child.step) child.spot child.res
  pub spot : IsSpot all child.spot
  pub next : NextOpen groups movers (coord_of child.step) (coord_of child.next)

abbrev pub NoChild : List Res → List Group → List Reqs → Coord → Type 0
NoChild held groups movers from = (x : Coord) → (Less x from → ⊥) → IsOpenCoord held groups movers x → ⊥

-- some place of the want may clash with the resource
abbrev pub Touches : Want → Res → Type 0
Touches want res = (res.kind ≡ want.kind) × (¬ (IsTrue res.shared × IsTrue want.shared)) × (want.min ≤ res.hi) × (res.lo ≤ want.max)

-- some want of the group
abbrev pub TouchesGroup : Group → Res → Type 0
TouchesGroup group res = (want : Want) × Contains group want × Touches want res

-- holds nothing but what was held before and this resource
abbrev pub Adds : List Res → Res → List Res → Type 0
Adds before res held = (other : Res) → Contains held other → Contains before other ⊎ (res ≡ other)

abbrev pub coords : List Frame → List Coord
coords path = map (λ f. coord_of f.step) path

abbrev pub taken : Option Res → List Res → List Res
taken None rest = []
taken (Some res) rest = res ∷ rest

abbrev pub kept : Option Res → List Frame → List Frame → List Frame
kept None here rest = here
kept (Some res) here rest = rest

-- what the first frames placed, and the frames after them
abbrev pub places_of : List Frame → List Res
places_of [] = []
places_of (f ∷ fs) = taken f.res (places_of fs)

abbrev pub rest_of : List Frame → List Frame
rest_of [] = []
rest_of (f ∷ fs) = kept f.res (f ∷ fs) (rest_of fs)

-- the resources of each mover, along the frames
abbrev pub plan_in : List Reqs → List Frame → List (List Res)
plan_in [] fs = []
plan_in ([] ∷ movers) fs = [] ∷ plan_in movers fs
plan_in ((list ∷ lists) ∷ movers) [] = [] ∷ plan_in movers []
plan_in ((list ∷ lists) ∷ movers) (f ∷ fs) = places_of fs ∷ plan_in movers (rest_of fs)

-- a pair put into the list of its kind
abbrev pub put_in : Lists → Kind → Pair → Lists
put_in lists kind p = with_kind lists kind (pairs_with (of_kind lists kind) p)

-- the owner of what a trial places: no device has this serial, and it is the last in the order of owners
abbrev pub trial : Owner
trial = Device 18446744073709551615

-- what a step places is held beside the rest, for the trial
abbrev pub lists_holding : Lists → Option Res → Lists
lists_holding l None = l
lists_holding l (Some res) = put_in l res.kind (trial, res)

-- what the frames of a path placed is held beside the rest, the first frame's first
abbrev pub lists_along : Lists → List Frame → Lists
lists_along l [] = l
lists_along l (f ∷ fs) = lists_along (lists_holding l f.res) fs
