-- The front whatever its drivers answer. A step of it is a step of the front in which each driver, asked now, answers the same; so nothing
-- of what a step is is said here again. A client answers as it registered: its word is part of the script.
use Rattle.std.specs.Prelude.{◌≡◌, List, Option, Some, None}
use Rattle.pnp_labels.specs.declared.label.Label.{Label}
use Rattle.pnp_labels.specs.declared.words.Answer.{Answer}
use Rattle.pnp_labels.specs.declared.words.DriverKind.{DriverKind}
use Rattle.pnp_model.specs.Records.{Driver, Settings}
use Rattle.free_model.specs.Frees.{free_opening, told, with_rack}
use Rattle.notify_front.specs.Fronts.{Front, FrontEntry, FrontSteps, IsFrontQuiet, front_printed, opening_front}

-- a front over other drivers
abbrev pub with_drivers : List Driver → Front → Front
with_drivers rack f = record f { state = with_rack rack f.state }

-- where all drivers answer so, the front makes this step; the drivers themselves stay as they are
abbrev pub FrontStepsBy : Answer → Settings → Front → FrontEntry → Front → Type 0
FrontStepsBy answer settings old entry new =
    (next : Front) × FrontSteps settings (with_drivers (told answer old.state.core.rack) old) entry next × (new ≡ with_drivers old.state.core.rack next)

-- the same for some answer
abbrev pub FreeFrontSteps : Settings → Front → FrontEntry → Front → Type 0
FreeFrontSteps settings old entry new = (answer : Answer) × FrontStepsBy answer settings old entry new

-- where each run begins: the root alone, and nobody is registered
abbrev pub free_opening_front : List DriverKind → Front
free_opening_front kinds = opening_front (free_opening kinds)

-- a step where all drivers answer so, with this label, or none is next
abbrev pub FrontMovesBy : Answer → Settings → Front → Option Label → Front → Type 0
FrontMovesBy answer told old (Some label) new = (entry : FrontEntry) × (label ≡ front_printed entry) × FrontStepsBy answer told old entry new
FrontMovesBy answer told old None new = IsFrontQuiet told old × (new ≡ old)
