-- What a step of the machine, or an event, can do to a state: the one account that laws over steps read.
use Rattle.std.specs.Prelude.{ℕ, ◌+◌, ◌≡◌, ◌≢◌, ◌⊎◌, ◌==◌, ◌&&◌, Bool, true, false, not, List, [], ◌∷◌, ◌++◌, Option, Some, None, length, map, find, drop, nat_le, nat_lt, slice_get}
use Rattle.std.specs.List.{list_any}
use Rattle.std.specs.Option.{is_some}
use Rattle.resource_reqs.specs.Resources.{Res, Reqs, clashes}
use Rattle.resource_reqs.specs.Spelling.{IsAnswer}
use Rattle.resource_reqs.specs.Spelling.Answer.{assignment}
use Rattle.pnp_labels.specs.Texts.{Text}
use Rattle.pnp_labels.specs.declared.states.DevState.TheVariants.{NoStack, NotStarted, Started, SurpriseRemoved}
use Rattle.pnp_labels.specs.declared.states.Problem.{Problem}
use Rattle.pnp_labels.specs.declared.words.AskWhat.{AskWhat}
use Rattle.pnp_labels.specs.declared.words.DriverKind.{DriverKind}
use Rattle.pnp_labels.specs.declared.words.Minor.{Minor}
use Rattle.pnp_labels.specs.declared.event.Event.{Event}
use Rattle.pnp_labels.specs.declared.event.Rule.{Rule}
use Rattle.pnp_labels.specs.declared.label.OpKind.{OpKind}
use Rattle.pnp_labels.specs.declared.label.OpEnd.{OpEnd}
use Rattle.pnp_labels.specs.declared.label.Label.{Label}
use Rattle.pnp_labels.specs.declared.label.Shown.{Shown}
use Rattle.pnp_model.specs.Books.{driver_named, is_named, is_unnamed, name_of, rack_after, with_name}
use Rattle.pnp_model.specs.Keyed.{changed_first, without_first}
use Rattle.pnp_model.specs.Tests.{has, has_same, is_started, is_surprise_removed, is_surprise_task}
use Rattle.pnp_model.specs.Trees.{children, dependents, stands_up}
use Rattle.pnp_model.specs.Walks.{walk_of, may_fail, is_bad, has_ended, state_after}
use Rattle.pnp_model.specs.Cores.{is_node, node_at, forget, bare, stacked, with_state, with_problem, with_stack, with_holds}
use Rattle.pnp_model.specs.Frames.{first_node, fixed_beside, held_by, next_driver}
use Rattle.pnp_model.specs.States.{is_activity, activity_at, device_born, device_of, entered, has_below, is_in_world, let_through, node_born, node_of, requires, with_phase, without_those}
use Rattle.pnp_model.specs.Windows.{is_window_on}
use Rattle.pnp_model.specs.Handles.{closed_with, is_handle_of, is_ready_device, opened, ready_device}
use Rattle.pnp_model.specs.Jobs.{stands}
use Rattle.pnp_model.specs.Starts.{adding, own_part}
use Rattle.pnp_model.specs.Rebalances.{begun_rebalance, begun_change, committed, movers, plan_of}
use Rattle.pnp_model.specs.Removals.{begun_removal, queried, refuses_unasked}
use Rattle.pnp_model.specs.Surprises.{begun_surprise, removing, stays_behind}
use Rattle.pnp_model.specs.Finishes.{begun_finish, taken}
use Rattle.pnp_model.specs.Tasks.{begin, is_gone, join_step, joining, numbered}
use Rattle.pnp_model.specs.Machine.{is_ready, phase_walk}
use Rattle.pnp_model.specs.Events.{answer_of, completed, completed_phase, finish_due, has_children, with_handles, with_rule}
use Rattle.pnp_model.specs.Runs.{Entry, Goes, printed}
use Rattle.pnp_model.specs.Runs.Entry.{Happens, Did, Declines}
use Rattle.pnp_model.specs.Records.{Node, Device, Relation, Walk, Activity, Phase, Task, Duty, State, Settings, Handle, Job, Course, Stage, course_of}
use Rattle.pnp_laws.specs.Kept.{Ascending, IsOwn}
use Rattle.pnp_laws.specs.Words.{IsBeside, IsNoJoin, IsWord, NotTwelve, EndsBy, is_removal, spared, joined}
use Rattle.device_ids.specs.Folding as folding

-- Who does it ----------------------------------------------------------------------

-- no operation runs, and the start of device k, in this phase, is the first that is ready
pub record Acting (s : State) (k : ℕ) (phase : Phase) : Type 0 where
  pub none : s.operation ≡ None
  pub activity : Activity
  pub ready : find is_ready s.activities ≡ Some activity
  pub own : activity.serial ≡ k
  pub is : activity.phase ≡ phase

-- the devices of an operation that may leave: where it settles who stays
abbrev pub leaving_in : Stage → List ℕ → List ℕ
leaving_in Stage.Settling todo = todo
leaving_in Stage.Leaving todo = todo
leaving_in _ todo = []

abbrev pub to_leave : Job → List ℕ
to_leave j = leaving_in j.stage j.todo

-- what is asked in a phase of a start
abbrev pub phase_minor : Phase → Option Minor
phase_minor (Phase.Starting w) = Some Minor.Start
phase_minor (Phase.Removing w) = Some Minor.Remove
phase_minor _ = None

abbrev pub PhaseOwn : Phase → Type 0
PhaseOwn phase = IsOwn (phase_walk phase) (phase_minor phase)

-- An operation as it is where its next device is taken: as it was, or at the request or the settling that begins for the device
pub data Turn (s : State) : Job → Job → Type 0 where
  same : (o : Job) → Turn s o o
  queries : (o : Job) (node : Node) → course_of o.kind ≡ Course.Removing → o.stage ≡ Stage.Next → o.walk ≡ None → first_node s.core.nodes o.todo ≡ Some node → refuses_unasked s.handles node ≡ false
      → Turn s o (queried o)
  removes : (o : Job) (node : Node) (d : ℕ) (ds : List ℕ) → course_of o.kind ≡ Course.Surprising → o.stage ≡ Stage.Next → o.walk ≡ None → first_node s.core.nodes o.todo ≡ Some node
      → stays_behind s.core o s.handles node.serial ≡ false → node.stack ≡ d ∷ ds → Turn s o (removing o)
  settles : (o : Job) (node : Node) → course_of o.kind ≡ Course.Surprising → o.stage ≡ Stage.Next → o.walk ≡ None → first_node s.core.nodes o.todo ≡ Some node
      → stays_behind s.core o s.handles node.serial ≡ false → node.stack ≡ [] → Turn s o (stands o o.todo Stage.Settling)
  finishes : (f : Job) (k : ℕ) (node : Node) → course_of f.kind ≡ Course.Finishing → f.stage ≡ Stage.Next → f.walk ≡ None → ready_device s.core s.handles ≡ Some k → node_at k s.core.nodes ≡ Some node
      → Turn s f (taken f node)

-- this operation runs, its next device taken
pub record Running (s : State) (o : Job) : Type 0 where
  pub before : Job
  pub runs : s.operation ≡ Some before
  pub turn : Turn s before o

-- a walk of the operation that runs, at its first device
pub record Asking (s : State) (node : Node) (w : Walk) : Type 0 where
  pub operation : Job
  pub runs : Running s operation
  pub first : first_node s.core.nodes operation.todo ≡ Some node
  pub walk : operation.walk ≡ Some w

-- the request whose walk through the drivers of a device ends: by the start of the device, or by the operation that runs
pub data Request (s : State) (node : Node) : Minor → Walk → Type 0 where
  starts : (w : Walk) → Acting s node.serial (Phase.Starting w) → Request s node Minor.Start w
  undoes : (w : Walk) → Acting s node.serial (Phase.Removing w) → Request s node Minor.Remove w
  operates : (w : Walk) → Asking s node w → Request s node w.minor w

-- only requests that may fail end badly
abbrev pub ends_bad : Minor → Walk → Bool
ends_bad minor w = may_fail minor && is_bad w

-- what was found for one device beside all others
pub record Assigned (s : State) (node : Node) (plan : List (List Res)) : Type 0 where
  pub at : node_at node.serial s.core.nodes ≡ Some node
  pub budget : ℕ
  pub answer : IsAnswer (fixed_beside s.core (node.serial ∷ [])) (node.reqs ∷ []) budget (assignment plan)

-- its search is next
abbrev pub IsSearch : Phase → Type 0
IsSearch (Phase.Adding []) = Unit {0}
IsSearch Phase.Searching = Unit {0}
IsSearch _ = ⊥

-- Nodes and relations ----------------------------------------------------------------

-- how a device changes that keeps its drivers: by the end of a walk, by a problem that is set or cleared, by one driver
-- more, or by resources that were found for it
pub data Alters (s : State) (label : Label) (t : State) : ℕ → (Node → Node) → Type 0 where
  walked : (node : Node) (minor : Minor) (w : Walk) (bad : Bool) → node_at node.serial s.core.nodes ≡ Some node → Request s node minor w → minor ≢ Minor.Remove
      → has_ended w (length node.stack) ≡ true → ends_bad minor w ≡ bad → label ≡ Label.State node.path (state_after minor bad node.state)
      → Alters s label t node.serial (with_state (state_after minor bad node.state))
  troubled : (j : ℕ) (problem : Option Problem) → Alters s label t j (with_problem problem)
  stacks : (node : Node) (d : ℕ) (ds : List ℕ) (name : Text) → node_at node.serial s.core.nodes ≡ Some node → Acting s node.serial (Phase.Adding (d ∷ ds)) → label ≡ Label.Add node.path name true
      → Alters s label t node.serial (with_stack (node.stack ++ d ∷ []) (stacked node.state))
  assigned : (node : Node) (phase : Phase) (plan : List (List Res)) → Acting s node.serial phase → IsSearch phase → Assigned s node plan
      → t.activities ≡ changed_first (is_activity node.serial) (with_phase (Phase.Starting (walk_of Minor.Start))) s.activities → Alters s label t node.serial (with_holds (own_part plan))

pub record Related (s : State) (r : Relation) : Type 0 where
  pub none : s.operation ≡ None
  pub owner : Node
  pub member : Node
  pub owner_path : Text
  pub member_path : Text
  pub owner_at : node_of owner_path s.core.nodes ≡ Some owner
  pub member_at : node_of member_path s.core.nodes ≡ Some member
  pub owner_is : r.owner ≡ owner.serial
  pub member_is : r.member ≡ member.serial
  pub owner_up : is_started owner.state ≡ true
  pub member_up : is_started member.state ≡ true
  pub apart : (owner.serial == member.serial) ≡ false
  pub free : has (dependents s.core member.serial) owner.serial ≡ false

pub data NodeEffect (s : State) (label : Label) (t : State) : Type 0 where
  same : t.core.nodes ≡ s.core.nodes → t.core.relations ≡ s.core.relations → NodeEffect s label t
  changed : (j : ℕ) (f : Node → Node) → Alters s label t j f → t.core.nodes ≡ changed_first (is_node j) f s.core.nodes → t.core.relations ≡ s.core.relations → NodeEffect s label t
  -- a REMOVE walk ended: the device loses drivers, holdings and relations
  stripped : (node : Node) (w : Walk) → node_at node.serial s.core.nodes ≡ Some node → Request s node Minor.Remove w → has_ended w (length node.stack) ≡ true
      → label ≡ Label.State node.path (state_after Minor.Remove false node.state)
      → t.core.nodes ≡ changed_first (is_node node.serial) bare s.core.nodes → t.core.relations ≡ forget node.serial s.core.relations → NodeEffect s label t
  -- the plan of a rebalance or a change is used
  commits : (r : Job) → s.operation ≡ Some r → course_of r.kind ≡ Course.Rebalancing → r.stage ≡ Stage.Committing
      → t.core.nodes ≡ map (committed r.wanted r.target (movers r) (plan_of r.found)) s.core.nodes → t.core.relations ≡ s.core.relations → NodeEffect s label t
  joins : (node : Node) (d : Device) → s.operation ≡ None → node_at node.serial s.core.nodes ≡ Some node → node.state ≡ Started
      → joining node.born s.core.nodes s.world ≡ Some d → record { label = label; state = t } ≡ join_step s node d → NodeEffect s label t
  left : (node : Node) (o : Job) → Running s o → first_node s.core.nodes (to_leave o) ≡ Some node
      → t.core.nodes ≡ without_first (is_node node.serial) s.core.nodes → t.core.relations ≡ s.core.relations → NodeEffect s label t
  related : (r : Relation) → Related s r → t.core.nodes ≡ s.core.nodes → t.core.relations ≡ s.core.relations ++ r ∷ [] → NodeEffect s label t

-- Drivers ------------------------------------------------------------------------------

-- no driver is asked or added, and no state is told
abbrev pub IsUnasked : Label → Type 0
IsUnasked (Label.Asked minor path name shown) = ⊥
IsUnasked (Label.Add path name ok) = ⊥
IsUnasked (Label.State path state) = ⊥
IsUnasked _ = Unit {0}

-- which driver answers, and how the rack is then; where a state is told, whose request has ended
pub data DriverEffect (s : State) (entry : Entry) (t : State) : Type 0 where
  same : IsUnasked (printed entry) → t.core.rack ≡ s.core.rack → DriverEffect s entry t
  ended : (node : Node) (minor : Minor) (w : Walk) (bad : Bool) → node_at node.serial s.core.nodes ≡ Some node → Request s node minor w
      → has_ended w (length node.stack) ≡ true → ends_bad minor w ≡ bad → printed entry ≡ Label.State node.path (state_after minor bad node.state)
      → t.core.rack ≡ s.core.rack → DriverEffect s entry t
  asked : (node : Node) (w : Walk) (shown : Shown) → node_at node.serial s.core.nodes ≡ Some node → (Ascending 0 s.core.nodes → has_ended w (length node.stack) ≡ false)
      → printed entry ≡ Label.Asked w.minor node.path (name_of s.core.rack (next_driver node w)) shown
      → t.core.rack ≡ rack_after (AskWhat.Irp w.minor) node.path s.core.rack (next_driver node w) → DriverEffect s entry t
  added : (node : Node) (d : ℕ) (ds : List ℕ) → Acting s node.serial (Phase.Adding (d ∷ ds)) → printed entry ≡ Label.Add node.path (name_of t.core.rack d) true
      → t.core.rack ≡ rack_after AskWhat.Add node.path s.core.rack d
      → t.activities ≡ changed_first (is_activity node.serial) (with_phase (adding ds)) s.activities → DriverEffect s entry t
  refused : (node : Node) (d : ℕ) (ds : List ℕ) → Acting s node.serial (Phase.Adding (d ∷ ds)) → printed entry ≡ Label.Add node.path (name_of t.core.rack d) false
      → t.core.rack ≡ rack_after AskWhat.Add node.path s.core.rack d → DriverEffect s entry t
  -- a driver that had no name gets one; a driver learns an answer
  named : (kind : DriverKind) (name : Text) (label : Label) → entry ≡ Happens (Event.Name name kind) label → IsUnasked (printed entry) → t.core.rack ≡ changed_first (is_unnamed kind) (with_name name) s.core.rack → DriverEffect s entry t
  taught : (name : Text) (rule : Rule) → IsUnasked (printed entry) → t.core.rack ≡ changed_first (is_named name) (with_rule rule) s.core.rack → DriverEffect s entry t

-- the drivers that were chosen for a device without drivers: lower filters, its service, upper filters
pub record Chosen (s : State) (k : ℕ) (drivers : List ℕ) : Type 0 where
  pub first : slice_get s.tasks 0 ≡ Some (record { kind = Duty.Starting; serial = k })
  pub free : activity_at k s.activities ≡ None
  pub node : Node
  pub at : node_at k s.core.nodes ≡ Some node
  pub bare : node.state ≡ NoStack
  pub lower_names : List Text
  pub service : Text
  pub upper_names : List Text
  pub few : nat_le (length lower_names + 1 + length upper_names) 16 ≡ true
  pub lower : List ℕ
  pub driver : ℕ
  pub upper : List ℕ
  pub lower_are : numbered s.core.rack lower_names ≡ Some lower
  pub driver_is : driver_named service s.core.rack ≡ Some driver
  pub upper_are : numbered s.core.rack upper_names ≡ Some upper
  pub all : drivers ≡ lower ++ driver ∷ upper

-- Ranges, world, disabled paths --------------------------------------------------------

pub data RangeEffect (s : State) (entry : Entry) (t : State) : Type 0 where
  same : t.core.reserved ≡ s.core.reserved → RangeEffect s entry t
  reserves : (res : Res) → s.operation ≡ None → list_any (clashes res) (s.core.reserved ++ held_by s.core.nodes) ≡ false → t.core.nodes ≡ s.core.nodes → t.core.reserved ≡ s.core.reserved ++ res ∷ []
      → (event : Event) (label : Label) → entry ≡ Happens event label → RangeEffect s entry t

pub record Plugged (s : State) (entry : Entry) (d : Device) : Type 0 where
  pub over : Device
  pub parent : Text
  pub label : Label
  pub there : device_of parent s.world ≡ Some over
  pub under : d.parent ≡ over.born
  pub born : d.born ≡ s.next_born
  pub room : nat_le (length s.world) 4096 ≡ true
  pub event : entry ≡ Happens (Event.Plug parent d.path d.hw d.compat d.reqs) label

-- what leaves the world: in an event a device that is not the root, in a step the device of a node that leaves
abbrev pub Unplugs : State → Entry → ℕ → Type 0
Unplugs s (Happens event label) born = (d : Device) × (path : Text) × (device_of path s.world ≡ Some d) × (d.born ≡ born) × ((d.born == 0) ≡ false)
Unplugs s (Declines label) born = ⊥
Unplugs s (Did label) born = (node : Node) × (o : Job) × (s.operation ≡ Some o) × (course_of o.kind ≡ Course.Removing) × (o.stage ≡ Stage.Settling) × (first_node s.core.nodes o.todo ≡ Some node) × (node.born ≡ born)

pub data WorldEffect (s : State) (entry : Entry) (t : State) : Type 0 where
  same : t.world ≡ s.world → t.next_born ≡ s.next_born → WorldEffect s entry t
  plugged : (d : Device) → Plugged s entry d → t.world ≡ s.world ++ d ∷ [] → t.next_born ≡ s.next_born + 1 → WorldEffect s entry t
  changed : (node : Node) (path : Text) (reqs : Reqs) (label : Label) → node_of path s.core.nodes ≡ Some node → (node.serial == 0) ≡ false → node.state ≡ Started → is_in_world s.world node.born ≡ true
      → entry ≡ Happens (Event.Change path reqs) label → t.world ≡ changed_first (λ d. d.born == node.born) (requires reqs) s.world → t.next_born ≡ s.next_born → WorldEffect s entry t
  unplugged : (born : ℕ) → Unplugs s entry born → t.world ≡ without_those (born ∷ []) s.world → t.next_born ≡ s.next_born → WorldEffect s entry t

pub data PathEffect (s : State) (label : Label) (t : State) : Type 0 where
  same : t.disabled ≡ s.disabled → PathEffect s label t
  disables : (o : Job) (node : Node) → s.operation ≡ Some o → course_of o.kind ≡ Course.Removing → first_node s.core.nodes o.todo ≡ Some node → label ≡ Label.Trouble node.path Problem.Disabled
      → t.disabled ≡ s.disabled ++ node.path ∷ [] → PathEffect s label t
  enables : (path : Text) → t.disabled ≡ without_first (folding.same path) s.disabled → PathEffect s label t

-- the event that gives a device its first window of a kind: it is not the root, and nothing is below it
pub record Windowed (s : State) (entry : Entry) (d : Device) (res : Res) : Type 0 where
  pub path : Text
  pub label : Label
  pub there : device_of path s.world ≡ Some d
  pub root_stays : (d.born == 0) ≡ false
  pub no_device : has_below d.born s.world ≡ false
  pub no_node : has_children s.core.nodes (node_born d.born s.core.nodes) ≡ false
  pub first : list_any (is_window_on res.kind (d.born ∷ [])) s.windows ≡ false
  pub event : entry ≡ Happens (Event.Window path res) label

pub data WindowEffect (s : State) (entry : Entry) (t : State) : Type 0 where
  same : t.windows ≡ s.windows → WindowEffect s entry t
  sets : (d : Device) (res : Res) → Windowed s entry d res → t.core ≡ s.core → t.windows ≡ s.windows ++ record { born = d.born; res = res } ∷ [] → WindowEffect s entry t

-- The operation ------------------------------------------------------------------------

-- what the device of a node requires in the world now, as it comes through to the node
abbrev pub required : State → Node → Option Device → Reqs
required s node None = []
required s node (Some d) = let_through node.parent d s

-- the operation of a kind, as it begins
abbrev pub begun : State → OpKind → Node → Job
begun s OpKind.Rebalance node = begun_rebalance s.core node
begun s OpKind.Disable node = begun_removal s.core OpKind.Disable node
begun s OpKind.Eject node = begun_removal s.core OpKind.Eject node
begun s OpKind.Surprise node = begun_surprise s.core node
begun s OpKind.Finish node = begun_finish node
begun s OpKind.Change node = begun_change s.core node (required s node (device_born node.born s.world))

-- what is tested before it begins
abbrev pub BeginsFor : State → OpKind → Node → Type 0
BeginsFor s OpKind.Rebalance node = (node.state ≡ NotStarted) × (activity_at node.serial s.activities ≡ None)
BeginsFor s OpKind.Disable node = has_same node.path s.disabled ≡ false
BeginsFor s OpKind.Surprise node = is_surprise_removed node.state ≡ false
BeginsFor s OpKind.Finish node = is_ready_device s.core s.handles node ≡ true
BeginsFor s OpKind.Change node = (node.state ≡ Started) × (is_some (device_born node.born s.world) ≡ true)
BeginsFor s _ node = Unit {0}

pub record SameWork (o p : Job) : Type 0 where
  pub kind : p.kind ≡ o.kind
  pub path : p.path ≡ o.path
  pub spared : spared p ≡ spared o
  pub wanted : p.wanted ≡ o.wanted

-- an activity prints the problem that it owes
pub record Owes (s : State) (label : Label) : Type 0 where
  pub activity : Activity
  pub ready : find is_ready s.activities ≡ Some activity
  pub problem : Problem
  pub is : activity.phase ≡ Phase.Due problem
  pub path : Text
  pub prints : label ≡ Label.Trouble path problem

-- an event leaves operation and activities as they are, or answers one walk
pub data AnswerEffect (s : State) (label : Label) (t : State) : Type 0 where
  stays : IsWord label → t.core.nodes ≡ s.core.nodes → t.activities ≡ s.activities → t.operation ≡ s.operation → AnswerEffect s label t
  answers : IsWord label → t.core.nodes ≡ s.core.nodes → (k : ℕ) (a : Activity) (ok : Bool) → activity_at k s.activities ≡ Some a
      → t.activities ≡ changed_first (is_activity k) (with_phase (completed_phase (answer_of ok) a.phase)) s.activities → t.operation ≡ s.operation → AnswerEffect s label t
  answered : IsWord label → t.core.nodes ≡ s.core.nodes → t.activities ≡ s.activities → (ok : Bool) (o : Job) → s.operation ≡ Some o → t.operation ≡ Some (completed (answer_of ok) o) → AnswerEffect s label t

-- with the end of a rebalance its target has an activity again, or a device above it is not up; with that of a change
-- nothing begins
abbrev pub ClosesRebalance : State → Job → State → Option Reqs → Type 0
ClosesRebalance s r t None =
    ((phase : Phase) × (t.activities ≡ entered (record { serial = r.target; phase = phase }) s.activities)) ⊎ (stands_up t.core.nodes r.target ≡ false)
ClosesRebalance s r t (Some wanted) = Unit {0}

-- a surprise removal ends where all have left, or at its target, which comes last
abbrev pub ClosesIn : State → Job → State → Course → Type 0
ClosesIn s r t Course.Rebalancing = ClosesRebalance s r t r.wanted
ClosesIn s o t Course.Surprising =
    (o.stage ≡ Stage.Ending) ⊎ ((o.stage ≡ Stage.Settling) × (node : Node) × (first_node s.core.nodes o.todo ≡ Some node) × (node.serial ≡ o.target))
ClosesIn s o t _ = Unit {0}

abbrev pub Closes : State → Job → State → Type 0
Closes s o t = ClosesIn s o t (course_of o.kind)

-- problem 12, where nothing is found
abbrev pub Conflicts : Job → Label → Type 0
Conflicts r label =
    (course_of r.kind ≡ Course.Rebalancing) × (r.stage ≡ Stage.Stuck) × (label ≡ Label.Trouble r.path Problem.NormalConflict)

-- in a step none runs; or one begins, goes on, or ends
pub data OpEffect (s : State) (label : Label) (t : State) : Type 0 where
  idles : s.operation ≡ None → t.operation ≡ None → IsBeside label ⊎ Owes s label → OpEffect s label t
  begins : (kind : OpKind) (node : Node) → s.operation ≡ None → s.activities ≡ [] → node_at node.serial s.core.nodes ≡ Some node → BeginsFor s kind node
      → record { label = label; state = t } ≡ begin s kind node (begun s kind node) → OpEffect s label t
  goes : (o p : Job) → s.operation ≡ Some o → t.operation ≡ Some p → SameWork o p
      → IsBeside label ⊎ Conflicts o label → OpEffect s label t
  ends : (o : Job) (result : OpEnd) → Running s o → t.operation ≡ None → label ≡ Label.End o.kind o.path result → EndsBy (is_removal (course_of o.kind)) result → Closes s o t
      → OpEffect s label t

abbrev pub OperationEffect : State → Entry → State → Type 0
OperationEffect s (Happens event label) t = AnswerEffect s label t
OperationEffect s (Did label) t = OpEffect s label t
OperationEffect s (Declines label) t = OpEffect s label t

-- Activities -----------------------------------------------------------------------------

-- why the start of a device begins in a phase: its drivers were chosen; or the rebalance for it closes
pub data Enters (s : State) (k : ℕ) (t : State) : Phase → Type 0 where
  installs : (drivers : List ℕ) → Chosen s k drivers → t.tasks ≡ drop 1 s.tasks → t.core.nodes ≡ changed_first (is_node k) (with_problem None) s.core.nodes → Enters s k t (adding drivers)
  restarts : (r : Job) (plan : List (List Res)) → s.operation ≡ Some r → course_of r.kind ≡ Course.Rebalancing → r.wanted ≡ None → r.stage ≡ Stage.Ending → r.target ≡ k → r.found ≡ assignment plan → t.core.nodes ≡ s.core.nodes
      → Enters s k t (Phase.Starting (walk_of Minor.Start))
  undoes : (r : Job) → s.operation ≡ Some r → course_of r.kind ≡ Course.Rebalancing → r.wanted ≡ None → r.target ≡ k → Enters s k t (Phase.Removing (walk_of Minor.Remove))

-- how the start of device k goes on
pub data PhaseStep (s : State) (k : ℕ) (t : State) : Phase → Phase → Type 0 where
  added : (d : ℕ) (ds : List ℕ) → Acting s k (Phase.Adding (d ∷ ds)) → PhaseStep s k t (Phase.Adding (d ∷ ds)) (adding ds)
  fits : (phase : Phase) (node : Node) (plan : List (List Res)) → Acting s k phase → IsSearch phase → Assigned s node plan → node.serial ≡ k
      → t.core.nodes ≡ changed_first (is_node k) (with_holds (own_part plan)) s.core.nodes → PhaseStep s k t phase (Phase.Starting (walk_of Minor.Start))
  asked : (w v : Walk) → Acting s k (Phase.Starting w) → v.minor ≡ w.minor → t.core.nodes ≡ s.core.nodes → PhaseStep s k t (Phase.Starting w) (Phase.Starting v)
  fails : (phase : Phase) (problem : Problem) → Acting s k phase → NotTwelve problem → PhaseStep s k t phase (Phase.Due problem)
  undoes : (phase : Phase) (w : Walk) → Acting s k phase → (PhaseOwn phase → PhaseOwn (Phase.Removing w)) → PhaseStep s k t phase (Phase.Removing w)
  answered : (a : Activity) (ok : Bool) → activity_at k s.activities ≡ Some a → t.core.nodes ≡ s.core.nodes → PhaseStep s k t a.phase (completed_phase (answer_of ok) a.phase)

-- what has become of device k where its start ends in a phase: nothing was found for it, it is up, its drivers are removed,
-- or it has none
pub data Over (s : State) (k : ℕ) (t : State) : Phase → Type 0 where
  unplaced : (phase : Phase) → IsSearch phase → t.core.nodes ≡ s.core.nodes → Over s k t phase
  up : (w : Walk) → t.core.nodes ≡ changed_first (is_node k) (with_state Started) s.core.nodes → Over s k t (Phase.Starting w)
  stripped : (w : Walk) → t.core.nodes ≡ changed_first (is_node k) bare s.core.nodes → Over s k t (Phase.Removing w)
  empty : (problem : Problem) (node : Node) → node_at k s.core.nodes ≡ Some node → node.stack ≡ []
      → t.core.nodes ≡ changed_first (is_node k) (with_problem (Some problem)) s.core.nodes → Over s k t (Phase.Due problem)

pub data ActivityEffect (s t : State) : Type 0 where
  same : t.activities ≡ s.activities → ActivityEffect s t
  enters : (k : ℕ) (phase : Phase) → Enters s k t phase → t.activities ≡ entered (record { serial = k; phase = phase }) s.activities → ActivityEffect s t
  goes : (k : ℕ) (old new : Phase) → PhaseStep s k t old new → t.activities ≡ changed_first (is_activity k) (with_phase new) s.activities → ActivityEffect s t
  ends : (k : ℕ) (phase : Phase) → Acting s k phase → Over s k t phase → t.activities ≡ without_first (is_activity k) s.activities → ActivityEffect s t

-- Tasks ------------------------------------------------------------------------------------

-- why a step appends a task
pub data Origin (s : State) : Duty → ℕ → Type 0 where
  lists : (k : ℕ) → Origin s Duty.Listing k
  needs : (k : ℕ) (phase : Phase) → Acting s k phase → Origin s (Duty.Begins OpKind.Rebalance) k
  surprises : (over : ℕ) (child : Node) → find (is_gone s) (children over s.core.nodes) ≡ Some child → Origin s (Duty.Begins OpKind.Surprise) child.serial

-- the device of a path may start again, and all but tasks and paths stays
pub record Enabled (s t : State) (path : Text) (n : Node) : Type 0 where
  pub at : node_of path s.core.nodes ≡ Some n
  pub stays : t ≡ record s { tasks = t.tasks; disabled = t.disabled }

-- an event appends one task at most
pub data CommandEffect (s t : State) : Type 0 where
  same : t.tasks ≡ s.tasks → CommandEffect s t
  lists : (k : ℕ) → t.tasks ≡ s.tasks ++ record { kind = Duty.Listing; serial = k } ∷ [] → CommandEffect s t
  starts : (path : Text) (n : Node) → Enabled s t path n → t.tasks ≡ s.tasks ++ record { kind = Duty.Starting; serial = n.serial } ∷ [] → CommandEffect s t
  -- a handle to a device that has gone was the last one
  finishes : (n : Node) (path : Text) → node_of path s.core.nodes ≡ Some n → n.state ≡ SurpriseRemoved
      → t.tasks ≡ s.tasks ++ record { kind = Duty.Begins OpKind.Finish; serial = n.serial } ∷ [] → CommandEffect s t
  begins : (kind : OpKind) (n : Node) (path : Text) → node_of path s.core.nodes ≡ Some n → (n.serial == 0) ≡ false
      → t.tasks ≡ s.tasks ++ record { kind = Duty.Begins kind; serial = n.serial } ∷ [] → CommandEffect s t

-- where the task of a surprise removal is dropped, its device is not there, or was told already, or its removal begins
abbrev pub Surprises : State → Task → State → Type 0
Surprises s task t =
    is_surprise_task task.kind ≡ true
    → (node_at task.serial s.core.nodes ≡ None)
    ⊎ (((node : Node) × (node_at task.serial s.core.nodes ≡ Some node) × (node.state ≡ SurpriseRemoved))
    ⊎ ((node : Node) × (node_at task.serial s.core.nodes ≡ Some node) × (t.operation ≡ Some (begun_surprise s.core node))))

pub data TaskEffect (s t : State) : Type 0 where
  same : t.tasks ≡ s.tasks → TaskEffect s t
  appended : (task : Task) → Origin s task.kind task.serial → t.tasks ≡ s.tasks ++ task ∷ [] → TaskEffect s t
  -- the start of a node that joins
  joins : t.next_serial ≡ s.next_serial + 1 → t.tasks ≡ s.tasks ++ record { kind = Duty.Starting; serial = s.next_serial } ∷ [] → TaskEffect s t
  dropped : (task : Task) → s.operation ≡ None → slice_get s.tasks 0 ≡ Some task → Surprises s task t → t.tasks ≡ drop 1 s.tasks → TaskEffect s t
  -- the surprise removal of a device that failed its restart
  put_first : (node : Node) (r : Job) → s.operation ≡ Some r → course_of r.kind ≡ Course.Rebalancing → r.stage ≡ Stage.Failed → first_node s.core.nodes r.todo ≡ Some node
      → t.tasks ≡ record { kind = Duty.Begins OpKind.Surprise; serial = node.serial } ∷ s.tasks → TaskEffect s t

abbrev pub TasksEffect : State → Entry → State → Type 0
TasksEffect s (Happens event label) t = CommandEffect s t
TasksEffect s (Did label) t = TaskEffect s t
TasksEffect s (Declines label) t = TaskEffect s t

-- Handles ----------------------------------------------------------------------------------

-- a handle is opened to a device that is up, while no operation runs, or one is closed
pub data HandleEffect (s : State) (entry : Entry) (t : State) : Type 0 where
  same : t.handles ≡ s.handles → HandleEffect s entry t
  opens : (node : Node) (path : Text) (label : Label) → s.operation ≡ None → node_of path s.core.nodes ≡ Some node → (node.serial == 0) ≡ false → node.state ≡ Started
      → entry ≡ Happens (Event.OpenHandle path) label → t ≡ record s { handles = opened node.serial s.handles } → HandleEffect s entry t
  closes : (node : Node) (path : Text) (label : Label) (handle : Handle) → node_of path s.core.nodes ≡ Some node → find (is_handle_of node.serial) s.handles ≡ Some handle
      → entry ≡ Happens (Event.CloseHandle path) label → t.handles ≡ closed_with node.serial s.handles (nat_lt 1 handle.count)
      → t ≡ finish_due node (not (nat_lt 1 handle.count) && is_surprise_removed node.state) (with_handles t.handles s) → HandleEffect s entry t

-- Joins ------------------------------------------------------------------------------------

pub data JoinEffect (s : State) (label : Label) (t : State) : Type 0 where
  none : IsNoJoin label → JoinEffect s label t
  joins : (node : Node) (d : Device) → s.operation ≡ None → node_at node.serial s.core.nodes ≡ Some node → node.state ≡ Started
      → joining node.born s.core.nodes s.world ≡ Some d → record { label = label; state = t } ≡ join_step s node d → JoinEffect s label t

-- All of it --------------------------------------------------------------------------------

pub record Effect (s : State) (entry : Entry) (t : State) : Type 0 where
  pub nodes : NodeEffect s (printed entry) t
  pub drivers : DriverEffect s entry t
  pub ranges : RangeEffect s entry t
  pub operation : OperationEffect s entry t
  pub activities : ActivityEffect s t
  pub tasks : TasksEffect s entry t
  pub world : WorldEffect s entry t
  pub paths : PathEffect s (printed entry) t
  pub windows : WindowEffect s entry t
  pub handles : HandleEffect s entry t
  pub joins : JoinEffect s (printed entry) t
  pub serial : t.next_serial ≡ s.next_serial + joined (printed entry)

-- each step and each event has one
abbrev pub EachStepHasAnEffectLaw : Type 0
EachStepHasAnEffectLaw = (settings : Settings) (s : State) (entry : Entry) (t : State) → Goes settings s entry t → Effect s entry t
