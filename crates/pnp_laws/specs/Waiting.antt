-- Devices that wait to be finished, and open handles: who has a handle, who was told that it has gone, and which task sees to it.
use Rattle.std.specs.Prelude.{ℕ, suc, ◌≡◌, ◌≤◌, ◌==◌, Bool, true, false, ◌&&◌, List, [], ◌∷◌, Option, Some, None}
use Rattle.std.specs.List.{list_any}
use Rattle.pnp_labels.specs.declared.label.OpKind.{OpKind}
use Rattle.pnp_labels.specs.declared.states.DevState.{DevState}
use Rattle.pnp_labels.specs.declared.states.DevState.TheVariants.{Started, StopPending, Stopped, SurpriseRemoved}
use Rattle.pnp_model.specs.Cores.{node_at}
use Rattle.pnp_model.specs.Handles.{is_open, is_ready_device}
use Rattle.pnp_model.specs.Laws.{Reaches}
use Rattle.pnp_model.specs.Records.{Core, Driver, Duty, Handle, Node, Settings, State, Task, Job, Course, course_of}
use Rattle.pnp_model.specs.Runs.{Entry}
use Rattle.pnp_model.specs.Tests.{has}
use Rattle.pnp_model.specs.Trees.{dependents, hangs_on}

-- Open handles ----------------------------------------------------------------------------------

-- who has a handle is up, or waits to be finished
abbrev pub is_held : DevState → Bool
is_held Started = true
is_held StopPending = true
is_held Stopped = true
is_held SurpriseRemoved = true
is_held _ = false

-- each device that has a handle is there, and held
abbrev pub HandlesFit : List Handle → List Node → Type 0
HandlesFit handles nodes = (k : ℕ) → is_open handles k ≡ true → (n : Node) × (node_at k nodes ≡ Some n) × (is_held n.state ≡ true)

-- they stand in order of serial, from lo on, and of each at least one is open
abbrev pub HandlesInOrder : ℕ → List Handle → Type 0
HandlesInOrder lo [] = Unit {0}
HandlesInOrder lo (h ∷ hs) = (lo ≤ h.serial) × (1 ≤ h.count) × HandlesInOrder (suc h.serial) hs

pub record OpenHandles (s : State) : Type 0 where
  pub held : HandlesFit s.handles s.core.nodes
  pub order : HandlesInOrder 0 s.handles

-- in each state of a run
abbrev pub OpenHandlesFitLaw : Type 0
OpenHandlesFitLaw = (settings : Settings) (rack : List Driver) (entries : List Entry) (s : State) → Reaches settings rack entries s → OpenHandles s

-- Who was told that it has gone -------------------------------------------------------------------

-- what hangs on a device that waits to be finished waits as well
abbrev pub Told : Core → Type 0
Told c =
    (k : ℕ) (n : Node) → node_at k c.nodes ≡ Some n → n.state ≡ SurpriseRemoved → (j : ℕ) (m : Node) → node_at j c.nodes ≡ Some m → hangs_on c (k ∷ []) m ≡ true → m.state ≡ SurpriseRemoved

-- and so does all that depends on it
abbrev pub DependentsTold : Core → Type 0
DependentsTold c =
    (k : ℕ) (n : Node) → node_at k c.nodes ≡ Some n → n.state ≡ SurpriseRemoved → (j : ℕ) (m : Node) → has (dependents c k) j ≡ true → node_at j c.nodes ≡ Some m → m.state ≡ SurpriseRemoved

-- neither a surprise removal nor a finish runs
abbrev pub IsNeither : Course → Type 0
IsNeither Course.Surprising = ⊥
IsNeither Course.Finishing = ⊥
IsNeither _ = Unit {0}

abbrev pub NeitherRuns : Option Job → Type 0
NeitherRuns None = Unit {0}
NeitherRuns (Some o) = IsNeither (course_of o.kind)

-- in each state of a run in which neither runs
abbrev pub DependentsAreToldLaw : Type 0
DependentsAreToldLaw =
    (settings : Settings) (rack : List Driver) (entries : List Entry) (s : State) → Reaches settings rack entries s → NeitherRuns s.operation
    → DependentsTold s.core

-- Who is ready to be finished ------------------------------------------------------------------------

abbrev pub is_finish_task : Duty → Bool
is_finish_task (Duty.Begins OpKind.Finish) = true
is_finish_task _ = false

abbrev pub is_finish_of : ℕ → Task → Bool
is_finish_of k task = is_finish_task task.kind && task.serial == k

-- a task is there that finishes the device
abbrev pub is_to_finish : List Task → ℕ → Bool
is_to_finish tasks k = list_any (is_finish_of k) tasks

-- each device that is ready has such a task
abbrev pub ReadyDue : State → Type 0
ReadyDue s = (k : ℕ) (n : Node) → node_at k s.core.nodes ≡ Some n → is_ready_device s.core s.handles n ≡ true → is_to_finish s.tasks k ≡ true

-- in each state of a run in which neither runs
abbrev pub ReadyOnesAreDueLaw : Type 0
ReadyOnesAreDueLaw =
    (settings : Settings) (rack : List Driver) (entries : List Entry) (s : State) → Reaches settings rack entries s → NeitherRuns s.operation → ReadyDue s
