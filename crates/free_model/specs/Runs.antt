-- Whole runs of the machine whatever its drivers answer, and that there are drivers that answer so.
use Rattle.std.specs.Prelude.{◌≡◌, List, [], ◌∷◌, map}
use Rattle.pnp_labels.specs.declared.words.DriverKind.{DriverKind}
use Rattle.pnp_labels.specs.declared.event.Event.{Event}
use Rattle.pnp_labels.specs.declared.label.Label.{Label}
use Rattle.pnp_model.specs.Records.{Driver, State, Settings}
use Rattle.pnp_model.specs.Machine.{IsQuiet}
use Rattle.pnp_model.specs.Events.{happens}
use Rattle.pnp_model.specs.Runs.{Entry, Run, opening}
use Rattle.pnp_model.specs.Runs.Entry.{Happens, Did, Declines}
use Rattle.free_model.specs.Frees.{FreeSteps, free_opening, with_rack}

abbrev pub FreeGoes : Settings → State → Entry → State → Type 0
FreeGoes settings old (Happens event label) new =
    IsQuiet settings old × (happens old event ≡ record { label = label; state = new })
FreeGoes settings old (Did label) new = FreeSteps settings old label new
-- the machine knows no clients: nothing is declined
FreeGoes settings old (Declines label) new = ⊥

abbrev pub FreeRun : Settings → State → List Entry → State → Type 0
FreeRun settings old [] new = new ≡ old
FreeRun settings old (entry ∷ rest) new = (mid : State) × FreeGoes settings old entry mid × FreeRun settings mid rest new

-- no driver is taught: what is taught would change only books, and a book that is full
abbrev pub IsUntaught : Event → Type 0
IsUntaught (Event.Teach name rule) = ⊥
IsUntaught _ = Unit {0}

-- an event before these entries; one that teaches is passed over
abbrev pub and_then : Event → Label → List Entry → List Entry
and_then (Event.Teach name rule) label rest = rest
and_then event label rest = Happens event label ∷ rest

-- the entries without those that teach a driver: they change books alone
abbrev pub without_teaching : List Entry → List Entry
without_teaching [] = []
without_teaching (Happens event label ∷ rest) = and_then event label (without_teaching rest)
without_teaching (Did label ∷ rest) = Did label ∷ without_teaching rest
without_teaching (Declines label ∷ rest) = Declines label ∷ without_teaching rest

-- Each run whatever the drivers answer is, but for books and what teaches them, one of the machine over drivers of these kinds, and
-- so is what comes before and after a state of it. So what is said of nodes, relations and labels in every run, in each state and in
-- each step, is said of these too.
abbrev pub EachFreeRunIsARunLaw : Type 0
EachFreeRunIsARunLaw =
    (settings : Settings) (kinds : List DriverKind) (earlier later : List Entry) (mid last : State)
    → FreeRun settings (free_opening kinds) earlier mid → FreeRun settings mid later last
    → (rack : List Driver) × (here : List Driver) × (there : List Driver) × (map (λ d. d.kind) rack ≡ kinds) × Run settings (opening rack) (without_teaching earlier) (with_rack here mid)
    × Run settings (with_rack here mid) (without_teaching later) (with_rack there last)
