-- The devices of the world and their nodes in the tree, with what they hold and how they are related.
use Rattle.std.specs.Prelude.{◌≡◌, ℕ, ◌<◌, ◌≤◌, ◌==◌, Bool, true, false, not, ◌&&◌, ◌||◌, List, [], ◌∷◌, ◌++◌, Option, Some, None, Result, Ok, Err, find, nat_le, option_map, length, if◌then◌else◌}
use Rattle.std.specs.List.{AllByRecursion, list_any}
use Rattle.pnp_labels.specs.Texts.{Text}
use Rattle.pnp_model.specs.Cores.{new_node, node_at}
use Rattle.pnp_model.specs.Records.{Device, Handle, Node, Relation, Task, Window}
use Rattle.pnp_model.specs.Runs.{root_device, root_node}
use Rattle.pnp_model.specs.States.{is_in_world, has_below, device_born, device_of, node_born}
use Rattle.pnp_model.specs.Tests.{is_started, is_surprise_removed}
use Rattle.pnp_model.specs.Tasks.{joins, joining, is_surprise_of}
use Rattle.pnp_model.specs.Trees.{children, is_child}
use Rattle.pnp_model.specs.Windows.{clip, is_window_on}
use Rattle.pnp_model.specs.Events.{has_children}
use Rattle.devnode_tree.specs.Trees.{Tree, with_node}
use Rattle.resource_reqs.specs.Resources.{Res, Reqs}
use Rattle.script_bus.specs.Worlds.{World, plugged, without_device}
use Rattle.script_bus.specs.declared.error.PlugError.{PlugError}
use Rattle.script_bus.specs.declared.error.PlugError.TheVariants.{NoParent, SameId, WorldFull, WantOfMemory}
use Rattle.bridge_windows.specs.declared.error.WindowError.{WindowError}
use Rattle.bridge_windows.specs.declared.error.WindowError.TheVariants as windows
use Rattle.std.specs.declared.alloc.AllocError.{AllocError}
use Rattle.script_bus.specs.declared.error.PullError.{PullError}
use Rattle.script_bus.specs.declared.error.PullError.TheVariants as pulls
use Rattle.pnp_labels.specs.declared.label.Reason.{Reason}
use Rattle.trial_journal.specs.ByKind.{Arbiters}
use Rattle.device_holdings.specs.Mirrors.{Mirrors}

pub record Devices : Type 0 where
  pub world : World
  pub tree : Tree
  pub relations : List Relation
  pub reserved : List Res
  pub windows : List Window
  pub handles : List Handle

-- the root alone, in world and tree
abbrev pub opening_devices : Devices
opening_devices =
    record {
      world = record { devices = root_device ∷ []; next = 1 };
      tree = record { nodes = root_node ∷ []; next = 1 };
      relations = [];
      reserved = [];
      windows = [];
      handles = [];
    }

-- a device that was born before another is not to join below this one
abbrev pub NotJoining : ℕ → ℕ → List Node → Device → Type 0
NotJoining over from nodes d = d.born < from → joins over nodes d ≡ false

-- a device was told that it has gone, or is in the world
abbrev pub is_here : List Device → Node → Bool
is_here devices n = is_surprise_removed n.state || is_in_world devices n.born

abbrev pub is_here_at : List Device → Option Node → Bool
is_here_at devices None = false
is_here_at devices (Some n) = is_here devices n

-- so of a child of a node
abbrev pub IsHere : ℕ → List Device → Node → Type 0
IsHere k devices n = is_child k n ≡ true → is_here devices n ≡ true

-- below the device where one joined last none joins that was born before the one from which on it is looked; each child of
-- the node that is whole is in the world or was told that it has gone; and the arbiters hold just what is reserved and what
-- devices hold
pub record IsKept (world : World) (tree : Tree) (reserved : List Res) (arbiters : Arbiters) (over from : ℕ) (whole : Option ℕ) : Type 0 where
  pub listed : AllByRecursion (NotJoining over from tree.nodes) world.devices
  pub within : from ≤ world.next
  pub here : (k : ℕ) → whole ≡ Some k → AllByRecursion (IsHere k world.devices) tree.nodes
  pub mirrors : Mirrors reserved tree.nodes arbiters

-- the birth number of the first device that is to join below a node
abbrev pub joins_next : Option Node → Devices → Option ℕ
joins_next None ds = None
joins_next (Some node) ds = option_map (λ d. d.born) (joining node.born ds.tree.nodes ds.world.devices)

-- a device of the world that requires only what comes through to those below a node
abbrev pub clipped : Devices → ℕ → Device → Device
clipped ds k d = record d { reqs = clip ds.windows ds.tree.nodes k d.reqs }

-- the first device that is to join below a node got a node of this serial; or none is to join
abbrev pub JoinedBy : Node → Option (ℕ × Text) → Devices → Devices → Type 0
JoinedBy node None old new = (joining node.born old.tree.nodes old.world.devices ≡ None) × (new ≡ old)
JoinedBy node (Some joined) old new =
    (d : Device) × (joining node.born old.tree.nodes old.world.devices ≡ Some d) × (joined.0 ≡ old.tree.next) × (joined.1 ≡ d.path)
    × (new ≡ record old { tree = with_node (new_node old.tree.next node.serial (clipped old node.serial d)) old.tree })

abbrev pub JoinedFor : Option Node → Option (ℕ × Text) → Devices → Devices → Type 0
JoinedFor None joined old new = ⊥
JoinedFor (Some node) joined old new = JoinedBy node joined old new

-- a device arrived in the world below its parent; or why it did not, and nothing changed
abbrev pub Arrives : World → (parent path : Text) (hw compat : List Text) (reqs : Reqs) → Result ℕ PlugError → World → Type 0
Arrives w parent path hw compat reqs (Ok born) w' =
    (over : Device) × (device_of parent w.devices ≡ Some over) × (device_of path w.devices ≡ None) × (nat_le (length w.devices) 4096 ≡ true)
    × (w' ≡ plugged over.born path hw compat reqs w)
Arrives w parent path hw compat reqs (Err NoParent) w' = (device_of parent w.devices ≡ None) × (w' ≡ w)
Arrives w parent path hw compat reqs (Err SameId) w' =
    (over : Device) × (device_of parent w.devices ≡ Some over) × ((other : Device) × (device_of path w.devices ≡ Some other)) × (w' ≡ w)
Arrives w parent path hw compat reqs (Err WorldFull) w' =
    (over : Device) × (device_of parent w.devices ≡ Some over) × (device_of path w.devices ≡ None) × (nat_le (length w.devices) 4096 ≡ false)
    × (w' ≡ w)
Arrives w parent path hw compat reqs (Err WantOfMemory) w' = w' ≡ w

-- the node of a birth number, by its serial
abbrev pub serial_born : ℕ → List Node → Option ℕ
serial_born born nodes = option_map (λ n. n.serial) (node_born born nodes)

-- the device of a path went, with all below it, and its parent's node is told; or why it did not, and nothing changed
abbrev pub Departs : Devices → Text → Result (Option ℕ) PullError → Devices → Type 0
Departs ds path (Ok over) ds' =
    (d : Device) × (device_of path ds.world.devices ≡ Some d) × ((d.born == 0) ≡ false) × (over ≡ serial_born d.parent ds.tree.nodes)
    × (ds' ≡ record ds { world = without_device d.born ds.world })
Departs ds path (Err pulls.NoDevice) ds' = (device_of path ds.world.devices ≡ None) × (ds' ≡ ds)
Departs ds path (Err pulls.RootStays) ds' = (d : Device) × (device_of path ds.world.devices ≡ Some d) × ((d.born == 0) ≡ true) × (ds' ≡ ds)

-- where the world has another device of a path than the one born so, its parent's node
abbrev pub relisted_device : ℕ → Option Device → List Node → Option ℕ
relisted_device born None nodes = None
relisted_device born (Some d) nodes = if d.born == born then None else serial_born d.parent nodes

abbrev pub relisted : Text → ℕ → Devices → Option ℕ
relisted path born ds = relisted_device born (device_of path ds.world.devices) ds.tree.nodes

-- a child that was not told so yet and whose birth number is not in the world, without a surprise task
abbrev pub is_gone_from : List Device → List Task → Node → Bool
is_gone_from world tasks n =
    not (is_surprise_removed n.state) && (not (is_in_world world n.born) && not (list_any (is_surprise_of n.serial) tasks))

-- the first of them below a node
abbrev pub gone_below : Devices → List Task → ℕ → Option Node
gone_below ds tasks k = find (is_gone_from ds.world.devices tasks) (children k ds.tree.nodes)

-- the same of the node of a serial
abbrev pub is_gone_node : List Device → List Task → Option Node → Bool
is_gone_node world tasks None = false
is_gone_node world tasks (Some n) = is_gone_from world tasks n

abbrev pub is_gone_at : Devices → List Task → ℕ → Bool
is_gone_at ds tasks k = is_gone_node ds.world.devices tasks (node_at k ds.tree.nodes)

-- a device of the world, or a node, stands below the device of a birth number
abbrev pub has_any_below : Devices → ℕ → Bool
has_any_below ds born = has_below born ds.world.devices || has_children ds.tree.nodes (node_born born ds.tree.nodes)

-- what the device of a node requires in the world now, as far as it comes through to the node; None: it is in the world no more
abbrev pub wanted_of : Devices → Node → Option Device → Option Reqs
wanted_of ds n None = None
wanted_of ds n (Some d) = Some (clip ds.windows ds.tree.nodes n.parent d.reqs)

-- the same where the device is Started
abbrev pub wanted_at : Devices → Option Node → Option Reqs
wanted_at ds None = None
wanted_at ds (Some n) = if is_started n.state then wanted_of ds n (device_born n.born ds.world.devices) else None

-- why a device gets no window of this range; None: it gets it
abbrev pub window_refusal : Devices → Res → Option Device → Option Reason
window_refusal ds res None = Some Reason.NoDevice
window_refusal ds res (Some d) =
    if d.born == 0 then Some Reason.RootStays
    else if has_any_below ds d.born then Some Reason.HasChildren
    else if list_any (is_window_on res.kind (d.born ∷ [])) ds.windows then Some Reason.SameWindow
    else None

-- the device has the window from now on, unless it was refused
abbrev pub with_window : Devices → Res → Option Device → Option Reason → Devices
with_window ds res (Some d) None = record ds { windows = ds.windows ++ record { born = d.born; res = res } ∷ [] }
with_window ds res device refused = ds

-- what is told where all but the windows of the device allows it: that it has one of the kind, or that it was set
abbrev pub IsTold : Result (Unit {0}) WindowError → Result (Option Reason) AllocError → Type 0
IsTold (Ok done) (Ok refused) = refused ≡ None
IsTold (Err windows.SameWindow) (Ok refused) = refused ≡ Some Reason.SameWindow
IsTold (Err windows.WantOfMemory) (Err want) = Unit {0}
IsTold _ _ = ⊥
