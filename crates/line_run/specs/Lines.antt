-- A run that is told by its lines.
use Rattle.std.specs.Prelude.{◌≡◌, ◌+◌, ◌⊎◌, Bool, true, false, [], ◌∷◌, ◌++◌, Option, Some, None}
use Rattle.pnp_labels.specs.Texts.{Text, label_line}
use Rattle.pnp_labels.specs.declared.event.Event as events
use Rattle.pnp_labels.specs.declared.label.Label.{Label}
use Rattle.pnp_labels.specs.declared.words.Answer.{Answer}
use Rattle.pnp_labels.specs.declared.words.Answer.TheVariants as answers
use Rattle.pnp_model.specs.Books.{name_of}
use Rattle.pnp_model.specs.Events.{happens}
use Rattle.pnp_model.specs.Machine.{IsQuiet}
use Rattle.free_model.specs.Asking.{answered}
use Rattle.free_model.specs.Asks.{Query, next_query}
use Rattle.free_model.specs.Frees.{FreeSteps, StepsBy}
use Rattle.free_run.specs.FreeRuns.{Free, HasHappened, settings}
use Rattle.line_run.specs.declared.ahead.Ahead.{Ahead}
use Rattle.line_run.specs.declared.ahead.Ahead.TheVariants.{Nothing, Step, Event}

-- the run, and the event whose line was not told yet, if one was looked at
pub record Lines : Type 0 where
  pub run : Free
  pub offered : Option events.Event

-- What was done ahead of its line -----------------------------------------------------------

-- the run is seen as it was before
abbrev pub seen : Free → Ahead → Free
seen run Nothing = run
seen run (Step label before) = before.value
seen run (Event label event before) = before.value

abbrev pub offered_by : Ahead → Option events.Event
offered_by Nothing = None
offered_by (Step label before) = None
offered_by (Event label event before) = Some event.value

-- a step that asks nobody leads there, and has this label
pub record IsMade (before : Free) (label : Label) (run : Free) : Type 0 where
  pub silent : next_query before.state ≡ None
  pub steps : StepsBy answers.Ok (settings before) before.state label run.state
  pub same : run ≡ record before { state = run.state }

-- at a quiet state an event does
pub record IsTaken (before : Free) (event : events.Event) (label : Label) (run : Free) : Type 0 where
  pub quiet : IsQuiet (settings before) before.state
  pub happened : HasHappened (happens before.state event) before run label

abbrev pub IsAhead : Free → Ahead → Type 0
IsAhead run Nothing = Unit {0}
IsAhead run (Step label before) = IsMade before.value label run
IsAhead run (Event label event before) = IsTaken before.value event.value label run

-- Lines -------------------------------------------------------------------------------------

-- the line of a label, with its LF
abbrev pub IsLine : Text → Label → Type 0
IsLine line label = line ≡ label_line label ++ 10 ∷ []

-- a test tells whether it is
abbrev pub IfLine : Bool → Text → Label → Type 0
IfLine true line label = IsLine line label
IfLine false line label = IsLine line label → ⊥

-- the line is that of the next step, whatever its driver answers, and it leads there
abbrev pub TakesStep : Free → Text → Free → Type 0
TakesStep old line new =
    (label : Label) × FreeSteps (settings old) old.state label new.state × IsLine line label × (new ≡ record old { state = new.state })

-- at a quiet state it is that of the event
abbrev pub TakesEvent : Free → Option events.Event → Text → Free → Type 0
TakesEvent old None line new = ⊥
TakesEvent old (Some event) line new =
    IsQuiet (settings old) old.state × IsLine line (happens old.state event).label
    × (new ≡ record old { events = old.events + 1; state = (happens old.state event).state })

abbrev pub Takes : Free → Option events.Event → Text → Free → Type 0
Takes old event line new = TakesStep old line new ⊎ TakesEvent old event line new

-- the line was taken; or it is not one that may be, and the run is as before
abbrev pub Tries : Bool → Free → Option events.Event → Text → Free → Type 0
Tries true old event line new = Takes old event line new
Tries false old event line new = (new ≡ old) × ((next : Free) → Takes old event line next → ⊥)

-- The parts of a try ------------------------------------------------------------------------

-- the label with which the driver that is to be asked answers so
abbrev pub answer_label : Free → Query → Answer → Label
answer_label f q answer = answered q.what q.path (name_of f.state.core.rack q.driver) answer

-- the answer that the line tells, if it tells one
abbrev pub ToldBy : Free → Query → Text → Option Answer → Type 0
ToldBy f q line None = (answer : Answer) → IsLine line (answer_label f q answer) → ⊥
ToldBy f q line (Some answer) = IsLine line (answer_label f q answer)

-- what was done where nobody is to be asked: nothing at a quiet state without an event
abbrev pub GoesAhead : Free → Option events.Event → Free → Ahead → Type 0
GoesAhead old event new Nothing = IsQuiet (settings old) old.state × (event ≡ None) × (new ≡ old)
GoesAhead old event new (Step label before) = (before.value ≡ old) × IsMade old label new
GoesAhead old event new (Event label own before) = (before.value ≡ old) × (event ≡ Some own.value) × IsTaken old own.value label new

-- whether the line is the one of what was done
abbrev pub IfDue : Bool → Text → Ahead → Type 0
IfDue due line Nothing = due ≡ false
IfDue due line (Step label before) = IfLine due line label
IfDue due line (Event label event before) = IfLine due line label

-- then nothing is ahead, else all is as before
abbrev pub after_due : Bool → Ahead → Ahead
after_due true ahead = Nothing
after_due false ahead = ahead
