-- How the world is kept: a tree of places and the devices that stand there.
use Rattle.std.specs.Prelude.{◌≡◌, ℕ, ◌⊎◌, [], map, Option, Some, None, option_map, nat_eq}
use Rattle.std.specs.List.{AllByRecursion}
use Rattle.std.specs.HashMap.{HashMap, get}
use Rattle.pnp_model.specs.Records.{Device, Node}
use Rattle.pnp_labels.specs.declared.states.DevState.TheVariants.{NoStack}
use Rattle.devnode_tree.specs.Trees.{Tree, IsTree}
use Rattle.script_bus.specs.declared.device.Device as shown
use Rattle.script_bus.specs.Worlds.{World}

-- the device that stands at a place
abbrev pub device_with : Node → Option shown.Device → Device
device_with n None = record { born = n.serial; parent = n.parent; path = n.path; hw = []; compat = []; reqs = [] }
device_with n (Some d) = record { born = n.serial; parent = n.parent; path = n.path; hw = d.hw; compat = d.compat; reqs = d.reqs }

-- but for the root, a place has no drivers
abbrev pub IsBare : Node → Type 0
IsBare n = (n.serial ≡ 0) ⊎ (n.state ≡ NoStack)

module _ {S : Type 0} where
  abbrev pub device_at : HashMap ℕ shown.Device S → Node → Device
  device_at parts n = device_with n (get nat_eq parts n.serial)

  abbrev pub world_of : Tree → HashMap ℕ shown.Device S → World
  world_of places parts = record { devices = map (device_at parts) places.nodes; next = places.next }

  -- what stands at a place has its path
  abbrev pub HasPart : HashMap ℕ shown.Device S → Node → Type 0
  HasPart parts n = option_map (λ d. d.path) (get nat_eq parts n.serial) ≡ Some n.path

  pub record IsKept (places : Tree) (parts : HashMap ℕ shown.Device S) : Type 0 where
    pub tree : IsTree places
    pub bare : AllByRecursion IsBare places.nodes
    pub parts_are : AllByRecursion (HasPart parts) places.nodes
