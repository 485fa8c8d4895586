-- What an event does to a quiet machine: a label, and the state after it. Each event is one definition: its refusals from the
-- top, in the order in which they are tested, and below them what is done.
use Rattle.std.specs.Prelude.{ℕ, ◌==◌, Bool, true, false, not, ◌&&◌, ◌||◌, List, [], ◌∷◌, ◌++◌, Option, Some, None, is_some, is_none, nat_lt, nat_le, find, length, slice_get, option_map, if◌then◌else◌}
use Rattle.std.specs.List.{list_any}
use Rattle.resource_reqs.specs.Resources.{Res, Reqs, clashes}
use Rattle.pnp_model.specs.Keyed.{changed_first}
use Rattle.device_ids.specs.Folding.{same}
use Rattle.pnp_model.specs.Tests.{has_same, has, is_scripted, is_started, is_surprise_removed, same_minor, same_rel}
use Rattle.pnp_model.specs.Books.{is_named, is_unnamed, with_name, printed_name}
use Rattle.pnp_model.specs.Walks.{after, shown_of}
use Rattle.pnp_model.specs.Cores.{set_rack}
use Rattle.pnp_model.specs.Trees.{dependents, is_child}
use Rattle.pnp_model.specs.Windows.{is_window_on}
use Rattle.pnp_model.specs.Handles.{is_handle_of, opened, closed_with}
use Rattle.pnp_model.specs.Frames.{held_by}
use Rattle.pnp_model.specs.States.{with_core, append_task, list_node, node_born, node_of, device_of, has_below, add_window, is_in_world, change_device, plug, unplug, enable_path, activity_at, set_phase, set_operation}
use Rattle.pnp_model.specs.Machine.{phase_walk}
use Rattle.pnp_labels.specs.Texts.{Text}
use Rattle.pnp_model.specs.Records.{Node, Core, Walk, Device, Driver, Relation, Phase, State, Step, Job, Handle, Duty}
use Rattle.pnp_model.specs.Records.Phase.{Starting, Removing}
use Rattle.pnp_labels.specs.declared.words.Minor.{Minor}
use Rattle.pnp_labels.specs.declared.words.Answer.{Answer}
use Rattle.pnp_labels.specs.declared.event.Rule.{Rule}
use Rattle.pnp_labels.specs.declared.words.DriverKind.{DriverKind}
use Rattle.pnp_labels.specs.declared.words.RelKind.{RelKind}
use Rattle.pnp_labels.specs.declared.label.OpKind.{OpKind}
use Rattle.pnp_labels.specs.declared.event.Event.{Event}
use Rattle.pnp_labels.specs.declared.label.EventWord.{EventWord}
use Rattle.pnp_labels.specs.declared.label.EventWord.TheVariants.{Plug, Pull, Name, Teach, Disable, Enable, Eject, Relate, Reserve, Complete, HandleOpen, HandleClose, Change, Window, Watch, Unwatch}
use Rattle.pnp_labels.specs.declared.label.Reason.{Reason}
use Rattle.pnp_labels.specs.declared.label.Reason.TheVariants.{NoParent, SameId, WorldFull, NoDevice, RootStays, SameName, RackEmpty, NoDriver, NotTeachable, BookFull, AlreadyDisabled, NotDisabled, Busy, SelfRelation, SameRelation, RelationCycle, NotStarted, InUse, NoHandle, HasChildren, SameWindow, NoSuchRequest}
use Rattle.pnp_labels.specs.declared.deed.Deed.{Deed}
use Rattle.pnp_labels.specs.declared.label.Label.{Label}

abbrev pub refused : EventWord → Reason → State → Step
refused word reason s = record { label = Label.Refused word reason; state = s }

abbrev pub did : Deed → State → Step
did deed s = record { label = Label.Did deed; state = s }

-- the step where something is not there, and else the one with it
abbrev pub unless : {A : Type 0} → Option A → Step → (A → Step) → Step
unless None otherwise next = otherwise
unless (Some x) otherwise next = next x

-- devices of the world --------------------------------------------------------

-- the root is one of the 4,097
abbrev pub plugs : State → Text → Text → List Text → List Text → Reqs → Step
plugs s parent path hw compat reqs =
    unless (device_of parent s.world) (refused Plug NoParent s) (λ over.
    if is_some (device_of path s.world) then refused Plug SameId s
    else if not (nat_le (length s.world) 4096) then refused Plug WorldFull s
    else
    let d : Device = record { born = s.next_born; parent = over.born; path = path; hw = hw; compat = compat; reqs = reqs } in
    did (Deed.Plugged path) (list_node (node_born over.born s.core.nodes) (plug d s)))

abbrev pub pulls : State → Text → Step
pulls s path =
    unless (device_of path s.world) (refused Pull NoDevice s) (λ d.
    if d.born == 0 then refused Pull RootStays s
    else did (Deed.Pulled d.path) (list_node (node_born d.parent s.core.nodes) (unplug d.born s)))

-- a node has this one as parent
abbrev pub has_children : List Node → Option Node → Bool
has_children nodes None = false
has_children nodes (Some node) = list_any (is_child node.serial) nodes

abbrev pub sets_window : State → Text → Res → Step
sets_window s path res =
    unless (device_of path s.world) (refused Window NoDevice s) (λ d.
    if d.born == 0 then refused Window RootStays s
    else if has_below d.born s.world || has_children s.core.nodes (node_born d.born s.core.nodes) then refused Window HasChildren s
    else if list_any (is_window_on res.kind (d.born ∷ [])) s.windows then refused Window SameWindow s
    else did (Deed.Windowed d.path res) (add_window d.born res s))

-- drivers ---------------------------------------------------------------------

abbrev pub names : State → Text → DriverKind → Step
names s name kind =
    if is_some (find (is_named name) s.core.rack) then refused Name SameName s
    else if is_none (find (is_unnamed kind) s.core.rack) then refused Name RackEmpty s
    else did (Deed.Named name) (with_core (set_rack (changed_first (is_unnamed kind) (with_name name) s.core.rack) s.core) s)

abbrev pub with_rule : Rule → Driver → Driver
with_rule rule driver = record driver { book = driver.book ++ rule ∷ [] }

abbrev pub teaches : State → Text → Rule → Step
teaches s name rule =
    unless (find (is_named name) s.core.rack) (refused Teach NoDriver s) (λ driver.
    if not (is_scripted driver.kind) then refused Teach NotTeachable s
    else if nat_le 64 (length driver.book) then refused Teach BookFull s
    else
    did (Deed.Taught (printed_name driver.name))
    (with_core (set_rack (changed_first (is_named name) (with_rule rule) s.core.rack) s.core) s))

-- nodes -----------------------------------------------------------------------

abbrev pub disables : State → Text → Step
disables s path =
    unless (node_of path s.core.nodes) (refused Disable NoDevice s) (λ node.
    if node.serial == 0 then refused Disable RootStays s
    else if has_same path s.disabled then refused Disable AlreadyDisabled s
    else did (Deed.Disabled node.path) (append_task (Duty.Begins OpKind.Disable) node.serial s))

abbrev pub start_node : Option Node → State → State
start_node None s = s
start_node (Some n) s = append_task Duty.Starting n.serial s

abbrev pub enables : State → Text → Step
enables s path =
    unless (find (same path) s.disabled) (refused Enable NotDisabled s) (λ own.
    did (Deed.Enabled own) (start_node (node_of path s.core.nodes) (enable_path path s)))

abbrev pub ejects : State → Text → Step
ejects s path =
    unless (node_of path s.core.nodes) (refused Eject NoDevice s) (λ node.
    if node.serial == 0 then refused Eject RootStays s
    else did (Deed.Ejected node.path) (append_task (Duty.Begins OpKind.Eject) node.serial s))

-- the device runs, and it is in the world
abbrev pub changes : State → Text → Reqs → Step
changes s path reqs =
    unless (node_of path s.core.nodes) (refused Change NoDevice s) (λ node.
    if not (is_in_world s.world node.born) then refused Change NoDevice s
    else if node.serial == 0 then refused Change RootStays s
    else if not (is_started node.state) then refused Change NotStarted s
    else did (Deed.Changed node.path) (append_task (Duty.Begins OpKind.Change) node.serial (change_device node.born reqs s)))

-- handles ---------------------------------------------------------------------

abbrev pub with_handles : List Handle → State → State
with_handles handles s = record s { handles = handles }

abbrev pub opens : State → Text → Step
opens s path =
    unless (node_of path s.core.nodes) (refused HandleOpen NoDevice s) (λ node.
    if node.serial == 0 then refused HandleOpen RootStays s
    else if is_some s.operation then refused HandleOpen Busy s
    else if not (is_started node.state) then refused HandleOpen NotStarted s
    else did (Deed.HandleOpened node.path) (with_handles (opened node.serial s.handles) s))

-- it was the last one of a device that waits to be finished
abbrev pub finish_due : Node → Bool → State → State
finish_due node true s = append_task (Duty.Begins OpKind.Finish) node.serial s
finish_due node false s = s

-- is another one open?
abbrev pub closes : State → Text → Step
closes s path =
    unless (node_of path s.core.nodes) (refused HandleClose NoDevice s) (λ node.
    unless (find (is_handle_of node.serial) s.handles) (refused HandleClose NoHandle s) (λ h.
    let more : Bool = nat_lt 1 h.count in
    did (Deed.HandleClosed node.path)
    (finish_due node (not more && is_surprise_removed node.state) (with_handles (closed_with node.serial s.handles more) s))))

-- relations and ranges --------------------------------------------------------

abbrev pub is_relation : RelKind → ℕ → ℕ → Relation → Bool
is_relation kind owner member r = same_rel r.kind kind && (r.owner == owner && r.member == member)

abbrev pub add_relation : Relation → Core → Core
add_relation r c = record c { relations = c.relations ++ r ∷ [] }

-- two nodes, while no operation runs
abbrev pub relates_two : State → RelKind → Node → Node → Step
relates_two s kind owner member =
    if owner.serial == member.serial then refused Relate SelfRelation s
    else if list_any (is_relation kind owner.serial member.serial) s.core.relations then refused Relate SameRelation s
    else if has (dependents s.core member.serial) owner.serial then refused Relate RelationCycle s
    else if not (is_started owner.state && is_started member.state) then refused Relate NotStarted s
    else
    did (Deed.Related kind owner.path member.path)
    (with_core (add_relation (record { kind = kind; owner = owner.serial; member = member.serial }) s.core) s)

abbrev pub relates : State → RelKind → Text → Text → Step
relates s kind owner member =
    unless (node_of owner s.core.nodes) (refused Relate NoDevice s) (λ owner.
    unless (node_of member s.core.nodes) (refused Relate NoDevice s) (λ member.
    if is_some s.operation then refused Relate Busy s
    else relates_two s kind owner member))

abbrev pub reserves : State → Res → Step
reserves s res =
    if is_some s.operation then refused Reserve Busy s
    else if list_any (clashes res) (s.core.reserved ++ held_by s.core.nodes) then refused Reserve InUse s
    else did (Deed.Reserved res) (with_core (record s.core { reserved = s.core.reserved ++ res ∷ [] }) s)

-- complete --------------------------------------------------------------------

abbrev pub answer_of : Bool → Answer
answer_of true = Answer.Ok
answer_of false = Answer.Fail

-- a phase whose walk got its answer
abbrev pub completed_phase : Answer → Phase → Phase
completed_phase answer (Starting w) = Starting (after w answer)
completed_phase answer (Removing w) = Removing (after w answer)
completed_phase answer phase = phase

-- and an operation
abbrev pub completed : Answer → Job → Job
completed answer j = record j { walk = option_map (λ w. after w answer) j.walk }

abbrev pub is_number : ℕ → Option ℕ → Bool
is_number k None = false
is_number k (Some j) = j == k

abbrev pub waits_for : Minor → Option Walk → Bool
waits_for minor None = false
waits_for minor (Some w) = w.waits && same_minor w.minor minor

-- the device of the operation's walk stands first
abbrev pub operation_waits : Minor → ℕ → Job → Bool
operation_waits minor k j = is_number k (slice_get j.todo 0) && waits_for minor j.walk

abbrev pub completion : Node → Minor → Bool → Deed
completion node minor ok = Deed.Completed node.path minor (shown_of minor (answer_of ok))

-- the start of a device
abbrev pub completes_start : State → Node → Minor → Bool → Step
completes_start s node minor ok =
    unless (activity_at node.serial s.activities) (refused Complete NoSuchRequest s) (λ a.
    if not (waits_for minor (phase_walk a.phase)) then refused Complete NoSuchRequest s
    else did (completion node minor ok) (set_phase node.serial (completed_phase (answer_of ok) a.phase) s))

-- at a node: the operation, or else a start
abbrev pub completes_at : State → Node → Minor → Bool → Step
completes_at s node minor ok =
    unless s.operation (completes_start s node minor ok) (λ j.
    if not (operation_waits minor node.serial j) then completes_start s node minor ok
    else did (completion node minor ok) (set_operation (Some (completed (answer_of ok) j)) s))

abbrev pub completes : State → Text → Minor → Bool → Step
completes s path minor ok =
    unless (node_of path s.core.nodes) (refused Complete NoSuchRequest s) (λ node. completes_at s node minor ok)

-- all events ------------------------------------------------------------------

abbrev pub happens : State → Event → Step
happens s (Event.Plug parent path hw compat reqs) = plugs s parent path hw compat reqs
happens s (Event.Pull path) = pulls s path
happens s (Event.Name name kind) = names s name kind
happens s (Event.Teach name rule) = teaches s name rule
happens s (Event.Disable path) = disables s path
happens s (Event.Enable path) = enables s path
happens s (Event.Eject path) = ejects s path
happens s (Event.Relate kind owner member) = relates s kind owner member
happens s (Event.Reserve res) = reserves s res
happens s (Event.Complete path minor ok) = completes s path minor ok
happens s (Event.OpenHandle path) = opens s path
happens s (Event.CloseHandle path) = closes s path
happens s (Event.Change path reqs) = changes s path reqs
happens s (Event.Window path res) = sets_window s path res
-- the machine knows no clients: what stands before it does
happens s (Event.Watch client path agrees) = refused Watch NoDevice s
happens s (Event.Unwatch client path) = refused Unwatch NoDevice s
