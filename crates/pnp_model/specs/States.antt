-- The small changes of a state, of which each step is made.
use Rattle.std.specs.Prelude.{ℕ, ◌+◌, ◌==◌, Bool, true, false, not, ◌&&◌, ◌||◌, List, [], ◌∷◌, ◌++◌, Option, Some, None, nat_lt, find, drop, if◌then◌else◌}
use Rattle.std.specs.List.{list_any}
use Rattle.pnp_model.specs.Keyed.{changed_first, without_first, put_before}
use Rattle.device_ids.specs.Folding.{same}
use Rattle.resource_reqs.specs.Resources.{Res, Reqs}
use Rattle.pnp_model.specs.Tests.{has}
use Rattle.pnp_model.specs.Cores.{new_node, add_node}
use Rattle.pnp_model.specs.Windows.{clip}
use Rattle.pnp_model.specs.Records.{Node, Core, Device, Activity, Phase, State, Job, Duty}
use Rattle.pnp_labels.specs.Texts.{Text}

abbrev pub with_core : Core → State → State
with_core c s = record s { core = c }

-- tasks

abbrev pub append_task : Duty → ℕ → State → State
append_task kind k s = record s { tasks = s.tasks ++ record { kind = kind; serial = k } ∷ [] }

abbrev pub put_task_first : Duty → ℕ → State → State
put_task_first kind k s = record s { tasks = record { kind = kind; serial = k } ∷ s.tasks }

abbrev pub drop_task : State → State
drop_task s = record s { tasks = drop 1 s.tasks }

-- activities stand in order of serial

abbrev pub is_activity : ℕ → Activity → Bool
is_activity k a = a.serial == k

abbrev pub activity_at : ℕ → List Activity → Option Activity
activity_at k activities = find (is_activity k) activities

abbrev pub is_above : ℕ → Activity → Bool
is_above k a = nat_lt k a.serial

abbrev pub entered : Activity → List Activity → List Activity
entered a activities = put_before (is_above a.serial) a activities

abbrev pub with_phase : Phase → Activity → Activity
with_phase phase a = record a { phase = phase }

abbrev pub begin_activity : ℕ → Phase → State → State
begin_activity k phase s = record s { activities = entered (record { serial = k; phase = phase }) s.activities }

abbrev pub set_phase : ℕ → Phase → State → State
set_phase k phase s = record s { activities = changed_first (is_activity k) (with_phase phase) s.activities }

abbrev pub end_activity : ℕ → State → State
end_activity k s = record s { activities = without_first (is_activity k) s.activities }

abbrev pub set_operation : Option Job → State → State
set_operation operation s = record s { operation = operation }

-- the world

abbrev pub device_born : ℕ → List Device → Option Device
device_born born world = find (λ d. d.born == born) world

abbrev pub device_of : Text → List Device → Option Device
device_of path world = find (λ d. same d.path path) world

abbrev pub is_in_world : List Device → ℕ → Bool
is_in_world world born = list_any (λ d. d.born == born) world

-- the world without these and all below: a device stands behind its parent
abbrev pub without_those : List ℕ → List Device → List Device
without_those gone [] = []
without_those gone (d ∷ ds) =
    if has gone d.born || has gone d.parent then without_those (d.born ∷ gone) ds else d ∷ without_those gone ds

abbrev pub unplug : ℕ → State → State
unplug born s = record s { world = without_those (born ∷ []) s.world }

abbrev pub plug : Device → State → State
plug d s = record s { world = s.world ++ d ∷ []; next_born = s.next_born + 1 }

-- a device of the world is below that of the birth number; the root is below none
abbrev pub is_below : ℕ → Device → Bool
is_below born d = d.parent == born && not (d.born == 0)

abbrev pub has_below : ℕ → List Device → Bool
has_below born world = list_any (is_below born) world

-- the device of the birth number has this window for good
abbrev pub add_window : ℕ → Res → State → State
add_window born res s = record s { windows = s.windows ++ record { born = born; res = res } ∷ [] }

-- nodes by birth number and by path

abbrev pub node_born : ℕ → List Node → Option Node
node_born born nodes = find (λ n. n.born == born) nodes

abbrev pub node_of : Text → List Node → Option Node
node_of path nodes = find (λ n. same n.path path) nodes

-- the device requires this
abbrev pub requires : Reqs → Device → Device
requires reqs d = record d { reqs = reqs }

-- the device of the birth number requires something else from now on
abbrev pub change_device : ℕ → Reqs → State → State
change_device born reqs s = record s { world = changed_first (λ d. d.born == born) (requires reqs) s.world }

-- what comes through to a device below this parent of what it requires in the world
abbrev pub let_through : ℕ → Device → State → Reqs
let_through parent d s = clip s.windows s.core.nodes parent d.reqs

-- the node of a device of the world that joins below a parent, under the next serial: what it requires is cut to what
-- the devices above it pass on
abbrev pub new_child : ℕ → Device → State → Node
new_child parent d s =
    new_node s.next_serial parent (requires (let_through parent d s) d)

abbrev pub join_node : ℕ → Device → State → State
join_node parent d s = record s { core = add_node (new_child parent d s) s.core; next_serial = s.next_serial + 1 }

-- the `list` task of the node, if there is one
abbrev pub list_node : Option Node → State → State
list_node None s = s
list_node (Some n) s = append_task Duty.Listing n.serial s

-- disabled paths

abbrev pub disable_path : Text → State → State
disable_path path s = record s { disabled = s.disabled ++ path ∷ [] }

abbrev pub enable_path : Text → State → State
enable_path path s = record s { disabled = without_first (same path) s.disabled }

-- where a node has left and the world has another device of its path, the parent's node is listed

abbrev pub relist_other : Device → Bool → State → State
relist_other d true s = s
relist_other d false s = list_node (node_born d.parent s.core.nodes) s

abbrev pub relist_device : ℕ → Option Device → State → State
relist_device born None s = s
relist_device born (Some d) s = relist_other d (d.born == born) s

abbrev pub relist : Text → ℕ → State → State
relist path born s = relist_device born (device_of path s.world) s
