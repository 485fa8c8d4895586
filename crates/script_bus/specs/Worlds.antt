-- The world as a list of devices in the order of their births, and what holds of every world.
use Rattle.std.specs.Prelude.{◌≡◌, ℕ, ◌+◌, ◌<◌, ◌≤◌, ◌^◌, ◌==◌, ◌⊎◌, Bool, true, not, ◌&&◌, List, [], ◌∷◌, ◌++◌, map, Option, None, IsTrue, option_map, if◌then◌else◌}
use Rattle.std.specs.List.{AllByRecursion}
use Rattle.pnp_labels.specs.Texts.{Text}
use Rattle.resource_reqs.specs.Resources.{Reqs}
use Rattle.pnp_model.specs.Keyed.{changed_first, those, without_first}
use Rattle.pnp_model.specs.Records.{Device}
use Rattle.pnp_model.specs.States.{device_born, without_those, requires}
use Rattle.pnp_model.specs.Tests.{has}
use Rattle.devnode_tree.specs.Trees.{Ascends}
use Rattle.script_bus.specs.declared.device.Device as shown

pub record World : Type 0 where
  pub devices : List Device  -- in the order of their births
  pub next : ℕ  -- the birth number of the next one

abbrev pub with_device : Device → World → World
with_device d w = record { devices = w.devices ++ d ∷ []; next = w.next + 1 }

-- a device is born below a parent
abbrev pub plugged : (parent : ℕ) (path : Text) (hw compat : List Text) (reqs : Reqs) → World → World
plugged parent path hw compat reqs w =
    with_device (record { born = w.next; parent = parent; path = path; hw = hw; compat = compat; reqs = reqs }) w

-- a device and all below it are gone
abbrev pub without_device : ℕ → World → World
without_device born w = record w { devices = without_those (born ∷ []) w.devices }

-- a device alone is gone
abbrev pub without_leaf : ℕ → World → World
without_leaf born w = record w { devices = without_first (λ d. d.born == born) w.devices }

-- a device requires something else
abbrev pub changed : ℕ → Reqs → World → World
changed born reqs w = record w { devices = changed_first (λ d. d.born == born) (requires reqs) w.devices }

-- what a device shows
abbrev pub part_of : Device → shown.Device
part_of d = record { path = d.path; hw = d.hw; compat = d.compat; reqs = d.reqs }

-- the root has no parent
abbrev pub parent_in : List Device → ℕ → Option ℕ
parent_in devices born = if born == 0 then None else option_map (λ d. d.parent) (device_born born devices)

abbrev pub births_of : List Device → List ℕ
births_of devices = map (λ d. d.born) devices

abbrev pub is_child : ℕ → Device → Bool
is_child born d = d.parent == born && not (d.born == 0)

abbrev pub child_births : List Device → ℕ → List ℕ
child_births devices born = births_of (those (is_child born) devices)

-- the root is its own parent; each other parent is there and was born earlier
abbrev pub HasParent : List ℕ → Device → Type 0
HasParent births d = ((d.born ≡ 0) × (d.parent ≡ 0)) ⊎ ((d.parent < d.born) × IsTrue (has births d.parent))

-- what passes for a device passes for its children
abbrev pub PassesDown : List Device → (ℕ → Bool) → Type 0
PassesDown devices p = (parent child : ℕ) → p parent ≡ true → has (child_births devices parent) child ≡ true → p child ≡ true

-- birth numbers ascend and are below the next one, which is at most 2^63, and parents are there
pub record IsWorld (w : World) : Type 0 where
  pub ascends : Ascends 0 (births_of w.devices)
  pub below : AllByRecursion (λ born. born < w.next) (births_of w.devices)
  pub few : w.next ≤ 2 ^ 63
  pub parents : AllByRecursion (HasParent (births_of w.devices)) w.devices
