-- What the machine does next.
use Rattle.std.specs.Prelude.{ℕ, ◌≡◌, Bool, true, false, not, List, [], ◌∷◌, Option, Some, None, find, slice_get, option_map}
use Rattle.resource_reqs.specs.Spelling.{IsAnswer}
use Rattle.pnp_model.specs.Cores.{node_at, path_of}
use Rattle.pnp_model.specs.States.{with_core, append_task, put_task_first, drop_task, set_phase, begin_activity, end_activity, set_operation, unplug, relist, disable_path, is_in_world}
use Rattle.pnp_model.specs.Walks.{walk_of, is_bad}
use Rattle.pnp_model.specs.Starts.{StartMove, StartBeside, act}
use Rattle.pnp_model.specs.Jobs.{JobMove, Beside, walks}
use Rattle.pnp_model.specs.Rebalances as rebalances
use Rattle.pnp_model.specs.Removals as removals
use Rattle.pnp_model.specs.Surprises as surprises
use Rattle.pnp_model.specs.Finishes as finishes
use Rattle.pnp_model.specs.Frames.{first_node}
use Rattle.pnp_model.specs.Tasks.{list_step, start_step, begin_step}
use Rattle.pnp_model.specs.Records.{Node, Core, Walk, Device, Handle, Activity, Phase, Task, State, Step, Settings, Found, Doing, doing_map, Job, Course, course_of, Duty, Beginning}
use Rattle.pnp_model.specs.Records.Doing.{Does, Searches}
use Rattle.pnp_model.specs.Records.Phase.{Adding, Searching, Starting, Removing, Due}
use Rattle.pnp_labels.specs.declared.words.Minor.{Minor}
use Rattle.pnp_labels.specs.declared.label.OpKind.{OpKind}
use Rattle.pnp_labels.specs.Texts.{Text}
use Rattle.pnp_labels.specs.declared.label.Label.{Label}

-- Frames become steps ---------------------------------------------------------

-- what the machine does beside a move of an activity
abbrev pub after_start : ℕ → Phase → StartBeside → State → State
after_start k phase StartBeside.On s = set_phase k phase s
after_start k phase StartBeside.Needs s = append_task (Duty.Begins OpKind.Rebalance) k (end_activity k s)
after_start k phase StartBeside.Up s = append_task Duty.Listing k (end_activity k s)
after_start k phase StartBeside.Over s = end_activity k s

abbrev pub start_lifted : State → ℕ → StartMove → Step
start_lifted s k m = record { label = m.label; state = after_start k m.frame m.beside (with_core m.core s) }

-- and beside a step of an operation
abbrev pub after_job : Job → Beside → State → State
after_job j Beside.On s = set_operation (Some j) s
after_job j (Beside.Left path born) s = relist path born (set_operation (Some j) s)
after_job j (Beside.Disabled path) s = disable_path path (set_operation (Some j) s)
after_job j (Beside.Ejected path born) s = relist path born (unplug born (set_operation (Some j) s))
after_job j (Beside.FailedRestart k) s = put_task_first (Duty.Begins OpKind.Surprise) k (set_operation (Some j) s)
after_job j Beside.Over s = set_operation None s
after_job j Beside.OverStart s = begin_activity j.target (Starting (walk_of Minor.Start)) (set_operation None s)
after_job j Beside.OverUndo s = begin_activity j.target (Removing (walk_of Minor.Remove)) (set_operation None s)

abbrev pub job_lifted : State → JobMove → Step
job_lifted s m = record { label = m.label; state = after_job m.frame m.beside (with_core m.core s) }

-- Who waits -------------------------------------------------------------------

abbrev pub phase_walk : Phase → Option Walk
phase_walk (Adding drivers) = None
phase_walk Searching = None
phase_walk (Starting w) = Some w
phase_walk (Removing w) = Some w
phase_walk (Due problem) = None

abbrev pub is_waiting : Option Walk → Bool
is_waiting None = false
is_waiting (Some w) = w.waits

abbrev pub is_ready : Activity → Bool
is_ready a = not (is_waiting (phase_walk a.phase))

-- What is next -------------------------------------------------------------------

-- where the request of the device that is next has ended: how the operation stands then
abbrev pub after_end : Core → Job → Bool → Node → Bool → Course → Option Job
after_end c j in_world node bad Course.Rebalancing = rebalances.after_end c j node bad j.stage
after_end c j in_world node bad Course.Removing = removals.after_end c j node bad j.stage
after_end c j in_world node bad Course.Surprising = surprises.after_end j j.stage
after_end c j in_world node bad Course.Finishing = finishes.after_end c j node in_world j.stage

-- what an operation does while no request is on its way
abbrev pub acts : Core → Job → Bool → List Handle → Option Node → Course → Option (Doing JobMove)
acts c j in_world handles n Course.Rebalancing = rebalances.acts c j j.stage n
acts c j in_world handles n Course.Removing = option_map (λ m. Does m) (removals.acts c j handles j.stage n)
acts c j in_world handles n Course.Surprising = option_map (λ m. Does m) (surprises.acts c j in_world handles j.stage n)
acts c j in_world handles n Course.Finishing = option_map (λ m. Does m) (finishes.acts c j handles j.stage n)

-- the next step of an operation that goes so; the device that is next stands first, and without it no request goes on
abbrev pub job_step : Core → Job → Course → Bool → List Handle → Option Walk → Option Node → Option (Doing JobMove)
job_step c j course in_world handles None n = acts c j in_world handles n course
job_step c j course in_world handles (Some w) None = None
job_step c j course in_world handles (Some w) (Some node) =
    option_map (λ m. Does m) (walks c j node w (after_end c j in_world node (is_bad w) course))

abbrev pub is_born : List Device → Option Node → Bool
is_born world None = false
is_born world (Some n) = is_in_world world n.born

-- is the device in the world whose place there decides? In a surprise removal that is the target, else the device that is
-- being finished
abbrev pub is_back : State → Job → Course → Bool
is_back s j Course.Surprising = is_born s.world (node_at j.target s.core.nodes)
is_back s j _ = is_born s.world (first_node s.core.nodes j.todo)

-- does its walk wait?
abbrev pub operation_next : State → Job → Bool → Option (Doing Step)
operation_next s j true = None
operation_next s j false =
    option_map (doing_map (job_lifted s))
    (job_step s.core j (course_of j.kind) (is_back s j (course_of j.kind)) s.handles j.walk (first_node s.core.nodes j.todo))

-- an activity has a node; without one there is no step
abbrev pub activity_next : State → Activity → Option Node → Option (Doing Step)
activity_next s a None = None
activity_next s a (Some node) = Some (doing_map (start_lifted s node.serial) (act s.core node a.phase))

-- an operation begins only where there is no activity
abbrev pub begin_alone : State → OpKind → ℕ → List Activity → Option (Doing Step)
begin_alone s kind k [] = Some (Does (begin_step s kind k (node_at k s.core.nodes)))
begin_alone s kind k (a ∷ activities) = None

abbrev pub task_of : Settings → State → Duty → ℕ → Option (Doing Step)
task_of settings s Duty.Listing k = Some (Does (list_step s k (node_at k s.core.nodes)))
task_of settings s Duty.Starting k = Some (Does (start_step settings s k (node_at k s.core.nodes)))
task_of settings s (Duty.Begins kind) k = begin_alone s kind k s.activities

abbrev pub task_next : Settings → State → Option Task → Option (Doing Step)
task_next settings s None = None
task_next settings s (Some task) = task_of settings s task.kind task.serial

-- activities stand in order of serial: the first that is ready is the lowest
abbrev pub idle_next : Settings → State → Option Activity → Option (Doing Step)
idle_next settings s (Some a) = activity_next s a (node_at a.serial s.core.nodes)
idle_next settings s None = task_next settings s (slice_get s.tasks 0)

abbrev pub next_of : Settings → State → Option Job → Option (Doing Step)
next_of settings s (Some j) = operation_next s j (is_waiting j.walk)
next_of settings s None = idle_next settings s (find is_ready s.activities)

abbrev pub next : Settings → State → Option (Doing Step)
next settings s = next_of settings s s.operation

-- The operation that is due: the next step begins it ---------------------------

abbrev pub is_begin : Label → Bool
is_begin (Label.Begin kind path) = true
is_begin _ = false

abbrev pub beginning : OpKind → ℕ → Bool → Option Beginning
beginning kind k false = None
beginning kind k true = Some (record { kind = kind; serial = k })

abbrev pub due_alone : State → OpKind → ℕ → List Activity → Option Beginning
due_alone s kind k [] = beginning kind k (is_begin (begin_step s kind k (node_at k s.core.nodes)).label)
due_alone s kind k (a ∷ activities) = None

abbrev pub due_duty : State → Duty → ℕ → Option Beginning
due_duty s Duty.Listing k = None
due_duty s Duty.Starting k = None
due_duty s (Duty.Begins kind) k = due_alone s kind k s.activities

abbrev pub due_task : State → Option Task → Option Beginning
due_task s None = None
due_task s (Some task) = due_duty s task.kind task.serial

abbrev pub due_with : State → Option Job → Option Beginning
due_with s (Some j) = None
due_with s None = due_task s (slice_get s.tasks 0)

abbrev pub due : State → Option Beginning
due s = due_with s s.operation

-- only a disable and an eject can be declined
abbrev pub is_in_order : OpKind → Bool
is_in_order OpKind.Disable = true
is_in_order OpKind.Eject = true
is_in_order _ = false

-- a client refuses, and the operation that is due is dropped; which client, the machine does not know
pub record IsDeclined (old : State) (label : Label) (new : State) : Type 0 where
  pub first : Beginning
  pub client : Text
  pub is_due : due old ≡ Some first
  pub in_order : is_in_order first.kind ≡ true
  pub says : label ≡ Label.Declined first.kind (path_of (node_at first.serial old.core.nodes)) client
  pub dropped : new ≡ drop_task old

-- The step as a relation ------------------------------------------------------

-- the step is done, by the answer of its search where it searches
abbrev pub IsStep : Settings → Option (Doing Step) → Step → Type 0
IsStep settings None step = ⊥
IsStep settings (Some (Does one)) step = step ≡ one
IsStep settings (Some (Searches problem by_answer)) step =
    (found : Found) × IsAnswer problem.fixed problem.movers settings.budget found × (step ≡ by_answer found)

abbrev pub Steps : Settings → State → Label → State → Type 0
Steps settings old label new = IsStep settings (next settings old) (record { label = label; state = new })

abbrev pub IsQuiet : Settings → State → Type 0
IsQuiet settings s = next settings s ≡ None
