-- A run of the machine whatever its drivers answer, as contracts see it, and what a step of it does.
use Rattle.std.specs.Prelude.{◌≡◌, ℕ, ◌+◌, Bool, List, Option, Some, None}
use Rattle.inf_reader.specs.declared.parts.Inf.{Inf}
use Rattle.pnp_labels.specs.declared.event.Event.{Event}
use Rattle.pnp_labels.specs.declared.label.Label.{Label}
use Rattle.pnp_labels.specs.declared.words.Answer.{Answer}
use Rattle.pnp_model.specs.Machine.{IsQuiet, Steps}
use Rattle.pnp_model.specs.Records.{Settings, State, Step}
use Rattle.start_sequence.specs.Begins.{settings_of}
use Rattle.free_model.specs.Frees.{StepsBy}
use Rattle.pnp_machine.specs.Machines as machines
use Rattle.pnp_machine.specs.Managers as managers

-- the INFs and the budget, how many events happened, and the state; of a driver's book it has what the driver was taught
pub record Free : Type 0 where
  pub infs : List Inf
  pub budget : ℕ
  pub events : ℕ
  pub state : State

-- what stays the same in a run
abbrev pub settings : Free → Settings
settings f = settings_of f.infs f.budget

-- a step where all drivers answer so, or none is next
abbrev pub MovesBy : Answer → Settings → State → Option Label → State → Type 0
MovesBy answer told old (Some label) new = StepsBy answer told old label new
MovesBy answer told old None new = IsQuiet told old × (new ≡ old)

-- a step by the books, or none is next
abbrev pub MovesOwn : Settings → State → Option Label → State → Type 0
MovesOwn told old (Some label) new = Steps told old label new
MovesOwn told old None new = IsQuiet told old × (new ≡ old)

-- at most 64 IDs of each sort
abbrev pub HasFewIds : Event → Type 0
HasFewIds event = machines.HasFewIds event

-- this is what an event does: the label, and the state after it; one event more has happened, and all else is as before
abbrev pub HasHappened : Step → Free → Free → Label → Type 0
HasHappened step old new label = (label ≡ step.label) × (new ≡ record old { events = old.events + 1; state = step.state })

-- a test tells whether a state is quiet
abbrev pub IfQuiet : Bool → Settings → State → Type 0
IfQuiet result told s = managers.IfQuiet result told s
