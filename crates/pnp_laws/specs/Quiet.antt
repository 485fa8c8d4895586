-- When a machine rests, and that else exactly one step is next.
use Rattle.std.specs.Prelude.{◌≡◌, ◌≢◌, ◌↔◌, true, List, [], Option, Some, None, find, slice_get}
use Rattle.pnp_model.specs.Records.{Driver, Activity, Task, State, Settings, Duty, Job}
use Rattle.pnp_model.specs.Machine.{Steps, IsQuiet, is_waiting, is_ready}
use Rattle.pnp_model.specs.Laws.{Reaches}
use Rattle.pnp_model.specs.Runs.{Entry}
use Rattle.pnp_labels.specs.declared.label.Label.{Label}

-- a task that begins an operation waits for the end of all activities
abbrev pub Delays : Duty → List Activity → Type 0
Delays Duty.Listing activities = ⊥
Delays Duty.Starting activities = ⊥
Delays (Duty.Begins kind) activities = activities ≢ []

abbrev pub NoTask : Option Task → List Activity → Type 0
NoTask None activities = Unit {0}
NoTask (Some task) activities = Delays task.kind activities

-- the operation that runs waits for an answer; or none runs, each activity waits for one, and the first task, if
-- there is one, begins an operation, for which there is still an activity
abbrev pub RestsWith : State → Option Job → Type 0
RestsWith s (Some o) = is_waiting o.walk ≡ true
RestsWith s None = (find is_ready s.activities ≡ None) × NoTask (slice_get s.tasks 0) s.activities

abbrev pub Rests : State → Type 0
Rests s = RestsWith s s.operation

-- a state of a run has no next step exactly where it rests
abbrev pub QuietWhereItRestsLaw : Type 0
QuietWhereItRestsLaw =
    (settings : Settings) (rack : List Driver) (entries : List Entry) (s : State)
    → Reaches settings rack entries s → IsQuiet settings s ↔ Rests s

-- one label and one new state, and no other
pub record OneStep (settings : Settings) (s : State) : Type 0 where
  pub label : Label
  pub next : State
  pub steps : Steps settings s label next
  pub only : (other : Label) (state : State) → Steps settings s other state → (other ≡ label) × (state ≡ next)

-- a state of a run that does not rest has exactly one next step
abbrev pub ExactlyOneStepLaw : Type 0
ExactlyOneStepLaw =
    (settings : Settings) (rack : List Driver) (entries : List Entry) (s : State)
    → Reaches settings rack entries s → (Rests s → ⊥) → OneStep settings s
