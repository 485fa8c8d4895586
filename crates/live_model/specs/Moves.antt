-- What a step and an event of a machine do whose drivers may be live.
use Rattle.std.specs.Prelude.{◌≡◌, ◌≤◌, Option, Some, None, length}
use Rattle.pnp_labels.specs.declared.event.Event.{Event}
use Rattle.pnp_labels.specs.declared.label.Label.{Label}
use Rattle.pnp_labels.specs.declared.words.Answer.{Answer}
use Rattle.pnp_model.specs.Machine.{IsQuiet, Steps}
use Rattle.pnp_model.specs.Records.{Settings, State, Step}
use Rattle.free_model.specs.Frees.{StepsBy}

-- a step in which the driver that is asked answers so, and no book changes; or none is next
abbrev pub MovesBy : Answer → Settings → State → Option Label → State → Type 0
MovesBy answer settings old (Some label) new = StepsBy answer settings old label new
MovesBy answer settings old None new = IsQuiet settings old × (new ≡ old)

-- a step by the books; or none is next
abbrev pub MovesOwn : Settings → State → Option Label → State → Type 0
MovesOwn settings old (Some label) new = Steps settings old label new
MovesOwn settings old None new = IsQuiet settings old × (new ≡ old)

-- this is what an event did: its label, and the state after it
abbrev pub HasHappened : Step → Label → State → Type 0
HasHappened step label new = (label ≡ step.label) × (new ≡ step.state)

-- at most 64 IDs of each sort
abbrev pub HasFewIds : Event → Type 0
HasFewIds (Event.Plug parent path hw compat reqs) = (length hw ≤ 64) × (length compat ≤ 64)
HasFewIds _ = Unit {0}
