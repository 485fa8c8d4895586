-- The machine whatever its drivers answer. A step of it is a step of the machine in which each driver, asked now, answers the
-- same; so nothing of what a step is is said here again.
use Rattle.std.specs.Prelude.{◌≡◌, List, [], ◌∷◌, None, map}
use Rattle.pnp_model.specs.Records.{Driver, State, Settings}
use Rattle.pnp_model.specs.Cores.{set_rack}
use Rattle.pnp_model.specs.Machine.{Steps}
use Rattle.pnp_model.specs.Runs.{opening}
use Rattle.pnp_labels.specs.declared.event.Rule.{Rule}
use Rattle.pnp_labels.specs.declared.label.Label.{Label}
use Rattle.pnp_labels.specs.declared.words.Answer.{Answer}
use Rattle.pnp_labels.specs.declared.words.AskWhat.{AskWhat}
use Rattle.pnp_labels.specs.declared.words.AskWhat.TheVariants.{Add, Irp}
use Rattle.pnp_labels.specs.declared.words.DriverKind.{DriverKind}
use Rattle.pnp_labels.specs.declared.words.DriverKind.TheVariants.{Scripted, Steady, Stubborn}
use Rattle.pnp_labels.specs.declared.words.Minor.TheVariants.{Start, QueryRemove, Remove, CancelRemove, Stop, QueryStop, CancelStop, SurpriseRemoval}

-- all that a driver may be asked
abbrev pub whats : List AskWhat
whats =
    Add ∷ Irp Start ∷ Irp QueryRemove ∷ Irp Remove ∷ Irp CancelRemove ∷ Irp Stop ∷ Irp QueryStop ∷ Irp CancelStop ∷ Irp SurpriseRemoval ∷ []

-- a rule for every path and without an end
abbrev pub endless : Answer → AskWhat → Rule
endless answer what = record { what = what; path = None; answer = answer; uses = None }

-- a driver of this kind and name that answers all so
abbrev pub telling : Answer → Driver → Driver
telling answer driver = record driver { book = map (endless answer) whats }

abbrev pub told : Answer → List Driver → List Driver
told answer rack = map (telling answer) rack

abbrev pub with_rack : List Driver → State → State
with_rack rack s = record s { core = set_rack rack s.core }

-- where all drivers answer so, the machine makes this step; the drivers themselves stay as they are
abbrev pub StepsBy : Answer → Settings → State → Label → State → Type 0
StepsBy answer settings old label new =
    (next : State) × Steps settings (with_rack (told answer old.core.rack) old) label next × (new ≡ with_rack old.core.rack next)

-- the same for some answer
abbrev pub FreeSteps : Settings → State → Label → State → Type 0
FreeSteps settings old label new = (answer : Answer) × StepsBy answer settings old label new

-- Of a driver the machine without books knows its kind, its name, and how many rules it was taught: only so much of a book is
-- looked at, and only where it is taught one more. At the start a stubborn driver has two.
abbrev pub own_rules : DriverKind → List Rule
own_rules Scripted = []
own_rules Steady = []
own_rules Stubborn = endless Answer.Fail (Irp QueryStop) ∷ endless Answer.Fail (Irp QueryRemove) ∷ []

abbrev pub new_driver : DriverKind → Driver
new_driver kind = record { kind = kind; name = None; book = own_rules kind }

abbrev pub free_opening : List DriverKind → State
free_opening kinds = opening (map new_driver kinds)
