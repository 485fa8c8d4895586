-- What stays: the turn of tasks, open handles, and what a running device holds.
use Rattle.std.specs.Prelude.{ℕ, ◌≡◌, ◌≢◌, ◌⊎◌, List, [], ◌∷◌, ◌++◌, Some, None, drop}
use Rattle.pnp_labels.specs.declared.event.Event.{Event}
use Rattle.pnp_labels.specs.declared.label.OpKind.{OpKind}
use Rattle.pnp_labels.specs.declared.states.DevState.TheVariants.{NoStack, NotStarted, Stopped}
use Rattle.pnp_model.specs.Cores.{node_at}
use Rattle.pnp_model.specs.Frames.{first_node}
use Rattle.pnp_model.specs.Laws.{Reaches}
use Rattle.pnp_model.specs.Records.{Course, Driver, Duty, Job, Node, Settings, Stage, State, Task, course_of}
use Rattle.pnp_model.specs.Runs.{Entry, Goes}
use Rattle.pnp_model.specs.Runs.Entry.{Happens}
use Rattle.pnp_promises.specs.Accepted.{task}

-- Tasks are taken in turn --------------------------------------------------------------------------

-- a new task stands last, the first is taken while no operation runs, and no other moves; but a device that failed its
-- START again after it was stopped is removed before all else
pub data InTurn (s t : State) : Type 0 where
  same : t.tasks ≡ s.tasks → InTurn s t
  last : (new : Task) → t.tasks ≡ s.tasks ++ new ∷ [] → InTurn s t
  first : s.operation ≡ None → t.tasks ≡ drop 1 s.tasks → InTurn s t
  failed : (n : Node) (o : Job) → s.operation ≡ Some o → course_of o.kind ≡ Course.Rebalancing → o.stage ≡ Stage.Failed → first_node s.core.nodes o.todo ≡ Some n
      → t.tasks ≡ task (Duty.Begins OpKind.Surprise) n ∷ s.tasks → InTurn s t

abbrev pub TasksAreInTurnLaw : Type 0
TasksAreInTurnLaw =
    (settings : Settings) (rack : List Driver) (entries : List Entry) (s : State) (entry : Entry) (t : State)
    → Reaches settings rack entries s → Goes settings s entry t → InTurn s t

-- Handles are the script's --------------------------------------------------------------------------

-- it opens or closes a handle
abbrev pub IsHandleEvent : Entry → Type 0
IsHandleEvent (Happens (Event.OpenHandle path) label) = Unit {0}
IsHandleEvent (Happens (Event.CloseHandle path) label) = Unit {0}
IsHandleEvent entry = ⊥

-- nothing else opens or closes one
abbrev pub HandlesAreTheScriptsLaw : Type 0
HandlesAreTheScriptsLaw =
    (settings : Settings) (rack : List Driver) (entries : List Entry) (s : State) (entry : Entry) (t : State)
    → Reaches settings rack entries s → Goes settings s entry t → (t.handles ≡ s.handles) ⊎ IsHandleEvent entry

-- A running device keeps what it holds ----------------------------------------------------------------

-- the device of a change, where the change is made
abbrev pub IsChanged : State → ℕ → Type 0
IsChanged s k = (o : Job) × (s.operation ≡ Some o) × (o.wanted ≢ None) × (o.target ≡ k)

-- what a device needs and holds stays, but where it is not started yet, or stopped, or loses its drivers, or is the device of a change
abbrev pub KeepsHoldings : State → State → Type 0
KeepsHoldings s t =
    (k : ℕ) (n m : Node) → node_at k s.core.nodes ≡ Some n → node_at k t.core.nodes ≡ Some m
    → ((m.holds ≡ n.holds) × (m.reqs ≡ n.reqs)) ⊎ (((n.state ≡ NotStarted) ⊎ (n.state ≡ Stopped)) ⊎ ((m.state ≡ NoStack) ⊎ IsChanged s k))

abbrev pub RunningKeepsLaw : Type 0
RunningKeepsLaw =
    (settings : Settings) (rack : List Driver) (entries : List Entry) (s : State) (entry : Entry) (t : State)
    → Reaches settings rack entries s → Goes settings s entry t → KeepsHoldings s t
