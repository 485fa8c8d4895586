-- The machine's state by its parts, and what a step or an event does to it.
use Rattle.std.specs.Prelude.{◌≡◌, ◌≢◌, ℕ, ◌≤◌, Bool, true, false, ◌&&◌, is_none, ◌==◌, List, [], ◌∷◌, ◌++◌, Option, Some, None, Result, Ok, Err, length, slice_get, option_map}
use Rattle.std.specs.declared.alloc.AllocError.{AllocError}
use Rattle.pnp_labels.specs.Texts.{Text}
use Rattle.pnp_labels.specs.declared.event.Event.{Event}
use Rattle.pnp_labels.specs.declared.label.Label.{Label}
use Rattle.pnp_labels.specs.declared.label.RemoveStep.{RemoveStep}
use Rattle.pnp_labels.specs.declared.label.RemoveStep.TheVariants as removes
use Rattle.pnp_model.specs.Machine.{Steps, IsQuiet, IsStep, is_born, is_waiting}
use Rattle.pnp_model.specs.Cores.{node_at}
use Rattle.pnp_model.specs.Events.{completed, answer_of, completes_at, completion}
use Rattle.pnp_model.specs.Tasks.{gone_child}
use Rattle.pnp_labels.specs.declared.words.Minor.{Minor}
use Rattle.pnp_labels.specs.declared.label.EventWord.{EventWord}
use Rattle.pnp_labels.specs.declared.label.OpKind.{OpKind}
use Rattle.pnp_labels.specs.declared.label.Reason.{Reason}
use Rattle.pnp_model.specs.States.{activity_at, append_task, set_operation, drop_task, relist, unplug, disable_path}
use Rattle.pnp_model.specs.Tests.{is_no_stack, is_not_started, has_same}
use Rattle.pnp_model.specs.Frames.{first_node}
use Rattle.pnp_model.specs.Trees.{is_up}
use Rattle.pnp_model.specs.Records.{Device, Node, Driver, Activity, Doing, Settings, State, Step, Task, Job}
use Rattle.pnp_model.specs.Records as machines
use Rattle.pnp_machine.specs.Devices.{Devices}
use Rattle.pnp_machine.specs.Doings.{core_with}
use Rattle.pnp_machine.specs.Operations.{operation_of}
use Rattle.pnp_machine.specs.declared.operation.Operation as declared
use Rattle.query_remove.specs.Parts.{is_settling}
use Rattle.pnp_machine.specs.Starts.{first_ready}
use Rattle.pnp_machine.specs.TaskLists.{duty_of}
use Rattle.pnp_machine.specs.declared.manager.Moved.{Moved}
use Rattle.pnp_machine.specs.declared.manager.Moved.TheVariants.{Label as Printed, Quiet}
use Rattle.pnp_machine.specs.declared.tasks.Duty.{Duty}
use Rattle.pnp_machine.specs.declared.tasks.Duty.TheVariants as duties
use Rattle.pnp_machine.specs.declared.turn.Turn.{Turn}
use Rattle.pnp_machine.specs.declared.turn.Turn.TheVariants as turns

abbrev pub state_of : Devices → List Driver → List Text → List Activity → Option Job → List Task → State
state_of devices rack disabled works operation tasks =
    record {
      world = devices.world.devices;
      next_born = devices.world.next;
      core = core_with devices rack;
      next_serial = devices.tree.next;
      disabled = disabled;
      activities = works;
      operation = operation;
      tasks = tasks;
      windows = devices.windows;
      handles = devices.handles;
    }

-- what was printed and what is there now are those of the step
abbrev pub IsDone : Step → Label → State → Type 0
IsDone step label new = (label ≡ step.label) × (new ≡ step.state)

-- the same of what is to be done, by the answer of its search where it searches
abbrev pub IsDoing : Settings → Option (Doing Step) → Label → State → Type 0
IsDoing settings doing label new = IsStep settings doing (record { label = label; state = new })

-- a step was made, or none is next
abbrev pub Moves : Settings → State → Moved → State → Type 0
Moves settings old (Printed label) new = Steps settings old label new
Moves settings old Quiet new = IsQuiet settings old × (new ≡ old)

-- at most 64 IDs of each sort
abbrev pub HasFewIds : Event → Type 0
HasFewIds (Event.Plug parent path hw compat reqs) = (length hw ≤ 64) × (length compat ≤ 64)
HasFewIds _ = Unit {0}

-- Which step is next ------------------------------------------------------------

-- a task that begins an operation waits until no device is being started
abbrev pub MayDo : Duty → List Activity → Type 0
MayDo (duties.Begin kind) works = works ≡ []
MayDo _ works = Unit {0}

abbrev pub IsTurn : Turn → State → Type 0
IsTurn turns.Quiet s = (settings : Settings) → IsQuiet settings s
IsTurn turns.Operate s = (j : Job) × (s.operation ≡ Some j) × (is_waiting j.walk ≡ false)
IsTurn (turns.Act k) s = (s.operation ≡ None) × (first_ready s.activities ≡ Some k)
IsTurn (turns.Do duty k) s =
    (s.operation ≡ None) × (first_ready s.activities ≡ None) × (slice_get s.tasks 0 ≡ Some (record { kind = duty_of duty; serial = k }))
    × MayDo duty s.activities

-- Starts ------------------------------------------------------------------------

-- the device is there, without drivers and without a start
abbrev pub is_idle : Option Node → Option Activity → Bool
is_idle None work = false
is_idle (Some node) work = is_no_stack node.state && is_none work

-- the device is there and its path is disabled
abbrev pub is_disabled_node : Option Node → List Text → Bool
is_disabled_node None paths = false
is_disabled_node (Some n) paths = has_same n.path paths

abbrev pub is_disabled : ℕ → State → Bool
is_disabled k s = is_disabled_node (node_at k s.core.nodes) s.disabled

abbrev pub can_start : ℕ → State → Bool
can_start k s = is_idle (node_at k s.core.nodes) (activity_at k s.activities)

-- Operations --------------------------------------------------------------------

-- the path of a device that is settled joins the disabled list
abbrev pub disable_settled : Option Text → State → State
disable_settled None s = s
disable_settled (Some path) s = disable_path path s

-- what the machine does beside a step of an operation that removes devices
abbrev pub beside : RemoveStep → Option Text → State → State
beside (removes.Did label) settled s = s
beside (removes.Left label path born) settled s = relist path born s
beside (removes.Disabled label) settled s = disable_settled settled s
beside (removes.Ejected label path born) settled s = relist path born (unplug born s)
beside (removes.Over label) settled s = set_operation None s

abbrev pub label_of : RemoveStep → Label
label_of (removes.Did label) = label
label_of (removes.Left label path born) = label
label_of (removes.Disabled label) = label
label_of (removes.Ejected label path born) = label
label_of (removes.Over label) = label

-- the same of a step that may have been refused for memory: then nothing
abbrev pub beside_made : Result RemoveStep AllocError → Option Text → State → State
beside_made (Ok step) settled s = beside step settled s
beside_made (Err error) settled s = s

-- the label is that of the step, and there is none exactly where the step was refused
abbrev pub IsLabelOf : Result RemoveStep AllocError → Result Label AllocError → Type 0
IsLabelOf (Ok step) (Ok label) = label ≡ label_of step
IsLabelOf (Err error) (Err refused) = Unit {0}
IsLabelOf _ _ = ⊥

-- who is ejected is not the root of the world
abbrev pub IsNoRoot : RemoveStep → Type 0
IsNoRoot (removes.Ejected label path born) = born ≢ 0
IsNoRoot _ = Unit {0}

-- a path that is disabled was not
abbrev pub IsNewPath : Option Text → List Text → Type 0
IsNewPath None paths = Unit {0}
IsNewPath (Some path) paths = has_same path paths ≡ false

abbrev pub IsNew : RemoveStep → Option Text → List Text → Type 0
IsNew (removes.Disabled label) settled paths = IsNewPath settled paths
IsNew _ settled paths = Unit {0}

-- the path of the device for which a removal runs, where this one is settled next
abbrev pub path_where : Bool → Text → Option Text
path_where false path = None
path_where true path = Some path

abbrev pub path_if : Bool → ℕ → Option Node → Option Text
path_if true target (Some n) = path_where (n.serial == target) n.path
path_if _ target first = None

abbrev pub settled_path : Job → List Node → Option Text
settled_path o nodes = path_if (is_settling o.stage) o.target (first_node nodes o.todo)

-- the tasks with one more that lists a node, if there is one
abbrev pub tasks_over : Option ℕ → List Task → List Task
tasks_over None tasks = tasks
tasks_over (Some k) tasks = tasks ++ record { kind = machines.Duty.Listing; serial = k } ∷ []

-- an operation begins in place of the first task
abbrev pub begun_with : declared.Operation → State → State
begun_with operation s = set_operation (Some (operation_of operation)) (drop_task s)

abbrev pub can_rebalance : Option Node → Bool
can_rebalance None = false
can_rebalance (Some n) = is_not_started n.state

-- the device is there, Started and in the world
abbrev pub can_change : List Device → Option Node → Bool
can_change world node = is_up node && is_born world node

-- what is done is that of the node
abbrev pub DoneFor : Option Node → (Node → Step) → Label → State → Type 0
DoneFor None step label new = ⊥
DoneFor (Some n) step label new = IsDone (step n) label new

-- where its request waited for the answer it got it, else nothing changed
abbrev pub CompletesOperation : Bool → Job → Bool → Bool → Job → Type 0
CompletesOperation true old ok done new = (done ≡ true) × (new ≡ completed (answer_of ok) old)
CompletesOperation false old ok done new = (done ≡ false) × (new ≡ old)

-- the line of an answer to a request, and of one that nobody waited for
abbrev pub answer_label : Node → Minor → Bool → Bool → Label
answer_label node minor ok true = Label.Did (completion node minor ok)
answer_label node minor ok false = Label.Refused EventWord.Complete Reason.NoSuchRequest

-- whether a request of the minor waited at the device is told, and if it did it got its answer
abbrev pub IsAnswered : State → ℕ → Minor → Bool → Bool → State → Type 0
IsAnswered old k minor ok done new =
    (node : Node) → node.serial ≡ k → IsDone (completes_at old node minor ok) (answer_label node minor ok done) new

-- what a listing does where no device joins
abbrev pub gone_or_listed_path : State → Text → Option Node → Step
gone_or_listed_path s path None = record { label = Label.Listed path; state = drop_task s }
gone_or_listed_path s path (Some child) =
    record { label = Label.Gone child.path; state = append_task (machines.Duty.Begins OpKind.Surprise) child.serial s }

abbrev pub gone_or_listed_at : State → ℕ → Text → Step
gone_or_listed_at s k path = gone_or_listed_path s path (gone_child s k)
