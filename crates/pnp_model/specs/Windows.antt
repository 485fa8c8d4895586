-- The windows of bridges: what a device may require is cut to what all devices above it pass on.
use Rattle.std.specs.Prelude.{ℕ, ◌+◌, ◌-◌, ◌^◌, min, max, Bool, true, false, ◌&&◌, List, [], ◌∷◌, ◌++◌, Option, Some, None, nat_le, map}
use Rattle.resource_reqs.specs.Resources.{Want, Reqs, same_kind}
use Rattle.resource_reqs.specs.declared.kind.Kind.{Kind}
use Rattle.pnp_model.specs.Keyed.{those}
use Rattle.pnp_model.specs.Tests.{has}
use Rattle.pnp_model.specs.Cores.{node_at}
use Rattle.pnp_model.specs.Trees.{above}
use Rattle.pnp_model.specs.Records.{Node, Window}

-- the numbers of a kind that come through; none where `lo` is above `hi`
pub record Room : Type 0 where
  pub lo : ℕ
  pub hi : ℕ

abbrev pub all_numbers : Room
all_numbers = record { lo = 0; hi = 2 ^ 64 - 1 }

-- the greatest first number and the least last number
abbrev pub narrowed : List Window → Room
narrowed [] = all_numbers
narrowed (w ∷ ws) = record { lo = max w.res.lo (narrowed ws).lo; hi = min w.res.hi (narrowed ws).hi }

abbrev pub birth_of : Option Node → List ℕ
birth_of None = []
birth_of (Some n) = n.born ∷ []

abbrev pub births : List Node → List ℕ → List ℕ
births nodes [] = []
births nodes (k ∷ ks) = birth_of (node_at k nodes) ++ births nodes ks

abbrev pub is_window_on : Kind → List ℕ → Window → Bool
is_window_on kind borns w = same_kind w.res.kind kind && has borns w.born

-- what comes through to the children of this device: it and those above it are the bridges
abbrev pub room : List Window → List Node → ℕ → Kind → Room
room windows nodes parent kind = narrowed (those (is_window_on kind (births nodes (parent ∷ above nodes parent))) windows)

abbrev pub cut : Room → Want → Want
cut r want = record want { min = max want.min r.lo; max = min want.max r.hi }

-- a want that nothing may come from: 1 is its only number, and not even
abbrev pub placeless : Want → Want
placeless want = record { kind = want.kind; min = 1; max = 1; len = 1; align = 2; shared = want.shared }

-- has its range room for its length? Else these numbers make no want
abbrev pub has_room : Want → Bool
has_room want = nat_le (want.min + want.len) (want.max + 1)

abbrev pub clipped_with : Want → Want → Bool → Want
clipped_with want now true = now
clipped_with want now false = placeless want

abbrev pub clipped_want : Room → Want → Want
clipped_want r want = clipped_with want (cut r want) (has_room (cut r want))

-- lists, groups and wants stay one for one
abbrev pub clip_by : (Kind → Room) → Reqs → Reqs
clip_by rooms reqs = map (λ list. map (λ group. map (λ want. clipped_want (rooms want.kind) want) group) list) reqs

-- what a device that joins below this one may require
abbrev pub clip : List Window → List Node → ℕ → Reqs → Reqs
clip windows nodes parent reqs = clip_by (room windows nodes parent) reqs
