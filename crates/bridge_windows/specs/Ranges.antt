-- The windows by device.
use Rattle.std.specs.Prelude.{◌≡◌, ℕ, ◌==◌, Bool, List, [], map, Option, Some, None, nat_eq}
use Rattle.std.specs.HashMap.{HashMap, get}
use Rattle.std.specs.declared.vec.Vec.{Vec}
use Rattle.resource_reqs.specs.Resources.{Res}
use Rattle.pnp_model.specs.Keyed.{those}
use Rattle.pnp_model.specs.Records.{Window}

abbrev pub is_of : ℕ → Window → Bool
is_of born w = born == w.born

-- the ranges of the device of a birth number, in the order in which they were set
abbrev pub ranges_of : ℕ → List Window → List Res
ranges_of born windows = map (λ w. w.res) (those (is_of born) windows)

abbrev pub kept_in : {A : Type 0} → Option (Vec Res A) → List Res
kept_in None = []
kept_in (Some v) = v.items

-- the map has the ranges of each device
abbrev pub IsIndexed : {A S : Type 0} → List Window → HashMap ℕ (Vec Res A) S → Type 0
IsIndexed windows ranges = (born : ℕ) → kept_in (get nat_eq ranges born) ≡ ranges_of born windows
