-- The front as contracts see it: a manager, who is registered, and what is at hand; and what its calls do.
use Rattle.std.specs.Prelude.{◌≡◌, ℕ, ◌+◌, true, false, Bool, List, [], ◌++◌, Some, map}
use Rattle.std.specs.List.{AllByRecursion}
use Rattle.pnp_labels.specs.declared.event.Event.{Event}
use Rattle.pnp_labels.specs.declared.label.Label.{Label}
use Rattle.pnp_model.specs.Records.{Driver, Settings, Beginning}
use Rattle.pnp_model.specs.Machine.{due, is_in_order}
use Rattle.pnp_model.specs.Runs.{Entry, Run, opening}
use Rattle.pnp_laws.specs.Needs.{IsEntryWithin}
use Rattle.pnp_laws.specs.Ends as ends
use Rattle.pnp_machine.specs.Managers.{Manager, settings}
use Rattle.pnp_machine.specs.declared.manager.Moved.{Moved}
use Rattle.pnp_machine.specs.declared.manager.Moved.TheVariants.{Label as Printed, Quiet}
use Rattle.notify_front.specs.Fronts.{Answered, Front, FrontEntry, FrontStep, FrontSteps, IsFrontQuiet, Registration, Hand, front_next, front_printed, machine_next, opening_front, on_set}
use Rattle.notify_front.specs.Notices.{FrontGoes, FrontRun, machine_part}
use Rattle.notify_front.specs.Laws.{IsTold, asked, IsDeclinedAfter}

-- a manager, who is registered, and what is at hand
pub record Desk : Type 0 where
  pub manager : Manager
  pub registrations : List Registration
  pub hand : Hand

abbrev pub front_of : Desk → Front
front_of d = record { state = d.manager.state; registrations = d.registrations; hand = d.hand }

-- what stays the same in a run
abbrev pub told_of : Desk → Settings
told_of d = settings d.manager

abbrev pub opening_desk : Manager → Desk
opening_desk m = record { manager = m; registrations = []; hand = Hand.Nothing }

-- nothing has happened to it, and it has made no step
pub record IsAtStart (m : Manager) : Type 0 where
  pub rack : List Driver
  pub opens : m.state ≡ opening rack
  pub events : m.events ≡ 0

-- an event of a client
abbrev pub is_of_client : Event → Bool
is_of_client (Event.Watch client path agrees) = true
is_of_client (Event.Unwatch client path) = true
is_of_client event = false

-- how many events the machine has taken after this one: those of clients are not its own
abbrev pub machine_events : Event → ℕ → ℕ
machine_events (Event.Watch client path agrees) n = n
machine_events (Event.Unwatch client path) n = n
machine_events event n = n + 1

-- a run with so many events of the machine leads to this front, and no device was plugged with an alternative of more than 16 groups
pub record IsOfFrontRun (told : Settings) (events : ℕ) (f : Front) : Type 0 where
  pub rack : List Driver
  pub entries : List FrontEntry
  pub reaches : FrontRun told (opening_front (opening rack)) entries f
  pub count : ends.events (machine_part entries) ≡ events
  pub within : AllByRecursion (IsEntryWithin 16) (machine_part entries)

-- what was printed and what is there now are those of the step
abbrev pub IsFrontDone : FrontStep → Label → Front → Type 0
IsFrontDone step label new = (label ≡ front_printed step.entry) × (new ≡ step.front)

-- what was printed and what is there now are those of a client's event
abbrev pub IsAnswered : Answered → Label → Front → Type 0
IsAnswered answered label new = (label ≡ answered.label) × (new ≡ answered.front)

-- a step was made, or none is next
abbrev pub FrontMoves : Settings → Front → Moved → Front → Type 0
FrontMoves told old (Printed label) new = (entry : FrontEntry) × (label ≡ front_printed entry) × FrontSteps told old entry new
FrontMoves told old Quiet new = IsFrontQuiet told old × (new ≡ old)

-- what is next is a step of the machine, of which nobody is told
abbrev pub IsAlone : Settings → Front → Type 0
IsAlone told f = front_next told f ≡ machine_next told f Hand.Nothing

-- a test tells whether a front is quiet
abbrev pub IfFrontQuiet : Bool → Settings → Front → Type 0
IfFrontQuiet true told f = IsFrontQuiet told f
IfFrontQuiet false told f = IsFrontQuiet told f → ⊥

-- What is kept by each step ---------------------------------------------------------------

-- whatever run leads to a step: without its notices and the events of clients it is one of the machine; where a disable or an eject
-- begins, all clients on its set were asked directly before, in order, and each agreed; a notice and a `declined` leave nodes, relations,
-- reserved ranges and every book as they are; and directly before a `declined` stand the queries, the refusal and the cancellations
pub record KeepsFrontLaws (told : Settings) (rack : List Driver) (entries : List FrontEntry) (old : Front) (entry : FrontEntry) (new : Front) : Type 0 where
  pub machine : Run told (opening rack) (machine_part entries) old.state
  pub asks : (label : Label) (first : Beginning) → entry ≡ FrontEntry.Passes (Entry.Did label) → due old.state ≡ Some first → is_in_order first.kind ≡ true
      → (earlier : List FrontEntry) × (entries ≡ earlier ++ map asked (on_set old first.serial))
  pub core : IsTold entry → new.state.core ≡ old.state.core
  pub declines : (label : Label) → entry ≡ FrontEntry.Passes (Entry.Declines label) → IsDeclinedAfter entries old label

abbrev pub FrontLawsOf : Settings → Front → Front → Type 0
FrontLawsOf told old new =
    (rack : List Driver) (entries : List FrontEntry) (entry : FrontEntry) →
    FrontRun told (opening_front (opening rack)) entries old → FrontGoes told old entry new → KeepsFrontLaws told rack entries old entry new
