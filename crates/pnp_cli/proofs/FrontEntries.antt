-- The entries of a run of the front: what it prints, and which events happened in it.
use Rattle.std.proofs.Common.{◌≡◌, List, [], ◌∷◌, ◌++◌, map, refl, sym, ap₂, subst}
use Rattle.pnp_labels.specs.declared.event.Event.{Event}
use Rattle.pnp_labels.specs.declared.label.Label.{Label}
use Rattle.pnp_model.specs.Events.{happens}
use Rattle.pnp_model.specs.Records.{Settings, Step}
use Rattle.pnp_model.specs.Runs.{Entry}
use Rattle.notify_front.specs.Fronts.{Front, FrontEntry, IsFrontQuiet, front_happens, front_printed, passed}
use Rattle.notify_front.specs.Fronts.FrontEntry.{Passes, Tells, Watches}
use Rattle.notify_front.specs.Laws.{AllOwn}
use Rattle.notify_front.specs.Notices.{FrontGoes, FrontRun}
use Rattle.notify_front.proofs.OwnSteps.{goes_on, own_step}
use Rattle.pnp_cli.specs.Lawful.{happened}
use Rattle.pnp_cli.specs.Outputs.{Settles}

pub run_on : (settings : Settings) (f g h : Front) (xs ys : List FrontEntry) → FrontRun settings f xs g → FrontRun settings g ys h → FrontRun settings f (xs ++ ys) h
run_on settings f g h [] ys first more = subst (λ (x : Front). FrontRun settings x ys h) first more
run_on settings f g h (x ∷ xs) ys (mid, goes, first) more = (mid, goes, run_on settings mid g h xs ys first more)

-- the entries of steps that print these labels
pub record Made (settings : Settings) (f : Front) (labels : List Label) (new : Front) : Type 0 where
  pub entries : List FrontEntry
  pub run : FrontRun settings f entries new
  pub alone : AllOwn entries
  pub shows : map front_printed entries ≡ labels

pub made_by : (settings : Settings) (f new : Front) (labels : List Label) → Settles settings f labels new → Made settings f labels new
made_by settings f new [] h = record { entries = []; run = h.0; alone = tt; shows = refl }
made_by settings f new (label ∷ labels) (mid, (entry, is, steps), more) =
    let rest = made_by settings mid new labels more in
    record { entries = entry ∷ rest.entries; run = (mid, goes_on settings f entry mid steps, rest.run); alone = (own_step settings f entry mid steps, rest.alone); shows = ap₂ (λ x xs. x ∷ xs) (sym is) rest.shows }

pub settles_quiet : (settings : Settings) (f new : Front) (labels : List Label) → Settles settings f labels new → IsFrontQuiet settings new
settles_quiet settings f new [] h = subst (λ (x : Front). IsFrontQuiet settings x) (sym h.0) h.1
settles_quiet settings f new (label ∷ labels) (mid, steps, more) = settles_quiet settings mid new labels more

-- no event is among them
pub own_happened : (xs more : List FrontEntry) → AllOwn xs → happened (xs ++ more) ≡ happened more
own_happened [] more alone = refl
own_happened (Passes (Entry.Happens event label) ∷ xs) more alone = absurd alone.0
own_happened (Passes (Entry.Did label) ∷ xs) more alone = own_happened xs more alone.1
own_happened (Passes (Entry.Declines label) ∷ xs) more alone = own_happened xs more alone.1
own_happened (Watches event label ∷ xs) more alone = absurd alone.0
own_happened (Tells label ∷ xs) more alone = own_happened xs more alone.1

-- and such entries are steps that print their labels
pub settles_by : (settings : Settings) (f last : Front) (steps : List FrontEntry) → AllOwn steps → FrontRun settings f steps last → IsFrontQuiet settings last → Settles settings f (map front_printed steps) last
settles_by settings f last [] alone run quiet = (run, subst (λ (x : Front). IsFrontQuiet settings x) run quiet)
settles_by settings f last (Passes (Entry.Happens event label) ∷ rest) alone run quiet = absurd alone.0
settles_by settings f last (Passes (Entry.Did label) ∷ rest) alone (mid, steps, run) quiet = (mid, (Passes (Entry.Did label), refl, steps), settles_by settings mid last rest alone.1 run quiet)
settles_by settings f last (Passes (Entry.Declines label) ∷ rest) alone (mid, steps, run) quiet = (mid, (Passes (Entry.Declines label), refl, steps), settles_by settings mid last rest alone.1 run quiet)
settles_by settings f last (Watches event label ∷ rest) alone run quiet = absurd alone.0
settles_by settings f last (Tells label ∷ rest) alone (mid, steps, run) quiet = (mid, (Tells label, refl, steps), settles_by settings mid last rest alone.1 run quiet)

-- an event at a quiet front goes on as the front says, and is the one that happened
passed_goes : (settings : Settings) (f : Front) (event : Event) (step : Step) → IsFrontQuiet settings f → front_happens f event ≡ passed f event step → FrontGoes settings f (passed f event step).entry (passed f event step).front
passed_goes settings f event step quiet is = (quiet, is)

pub event_goes : (settings : Settings) (f : Front) (event : Event) → IsFrontQuiet settings f → FrontGoes settings f (front_happens f event).entry (front_happens f event).front
event_goes settings f (Event.Watch client path agrees) quiet = (quiet, refl)
event_goes settings f (Event.Unwatch client path) quiet = (quiet, refl)
event_goes settings f event quiet = passed_goes settings f event (happens f.state event) quiet refl

passed_happened : (f : Front) (event : Event) (step : Step) (more : List FrontEntry) → happened ((passed f event step).entry ∷ more) ≡ event ∷ happened more
passed_happened f event step more = refl

pub event_happened : (f : Front) (event : Event) (more : List FrontEntry) → happened ((front_happens f event).entry ∷ more) ≡ event ∷ happened more
event_happened f (Event.Watch client path agrees) more = refl
event_happened f (Event.Unwatch client path) more = refl
event_happened f event more = passed_happened f event (happens f.state event) more
