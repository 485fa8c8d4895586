-- What may be held of requirements that were clipped.
use Rattle.std.specs.Prelude.{ℕ, ◌≡◌, ◌≤◌, ◌↔◌, List, All, length, map}
use Rattle.resource_reqs.specs.Resources.{Res, Reqs, Whole}
use Rattle.resource_reqs.specs.declared.kind.Kind.{Kind}
use Rattle.pnp_model.specs.Windows.{Room, clip_by}

-- the resource lies in the room of its kind
abbrev pub IsInRoom : (Kind → Room) → Res → Type 0
IsInRoom rooms res = ((rooms res.kind).lo ≤ res.lo) × (res.hi ≤ (rooms res.kind).hi)

-- a whole alternative of the clipped requirements is one of the requirements as they were that lies in the rooms
abbrev pub ClipLaw : Type 0
ClipLaw = (rooms : Kind → Room) (reqs : Reqs) (holds : List Res) → Whole (clip_by rooms reqs) holds ↔ (Whole reqs holds × All (IsInRoom rooms) holds)

-- what was clipped by the same rooms stays as it is
abbrev pub ClipTwiceLaw : Type 0
ClipTwiceLaw = (rooms : Kind → Room) (reqs : Reqs) → clip_by rooms (clip_by rooms reqs) ≡ clip_by rooms reqs

-- how many wants each group of each list has
abbrev pub wants_of : Reqs → List (List ℕ)
wants_of reqs = map (λ list. map (λ group. length group) list) reqs

-- clipping keeps the numbers of lists, of groups and of wants
abbrev pub ClipCountsLaw : Type 0
ClipCountsLaw = (rooms : Kind → Room) (reqs : Reqs) → wants_of (clip_by rooms reqs) ≡ wants_of reqs
