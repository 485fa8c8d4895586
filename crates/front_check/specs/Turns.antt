-- What a turn of the check finds: a line is allowed and the run goes on; or what is left has its verdict.
use Rattle.std.specs.Prelude.{ℕ, ◌+◌, ◌≡◌, ◌≤◌, true, [], ◌∷◌, ◌++◌, length, drop}
use Rattle.pnp_labels.specs.Texts.{Text, label_line}
use Rattle.pnp_labels.specs.declared.event.Event.{Event}
use Rattle.pnp_model.specs.Records.{Settings}
use Rattle.script_reader.specs.Reading.{Reading}
use Rattle.script_reader.specs.Script.{Trace, trace}
use Rattle.free_model.specs.Checks.{end_bytes}
use Rattle.notify_front.specs.Desks.{Desk, front_of, machine_events, told_of}
use Rattle.notify_front.specs.Fronts.{Front, IsFrontQuiet, front_happens, front_printed}
use Rattle.trace_check.specs.declared.check.Checked.{Checked}
use Rattle.front_check.specs.FrontChecks.{Place, Runs, Ends, Allows, IsYes, IsNo}
use Rattle.front_check.specs.declared.step.Found.{Found}
use Rattle.front_check.specs.declared.turn.Turn.{Turn}

-- this is what an event did, and this is its line with its LF
pub record HasPrinted (event : Event) (old new : Desk) (line : Text) : Type 0 where
  pub says : line ≡ label_line (front_printed (front_happens (front_of old) event).entry) ++ 10 ∷ []
  pub became : front_of new ≡ (front_happens (front_of old) event).front
  pub told : told_of new ≡ told_of old
  pub count : new.manager.events ≡ machine_events event old.manager.events

-- so many bytes of what is left are a line that is allowed here, with its LF, and it leads there
pub record IsTaken (told : Settings) (here : Place) (rest : Text) (count : ℕ) (there : Place) : Type 0 where
  pub line : Text
  pub allows : Allows told here line there
  pub front : rest ≡ line ++ 10 ∷ drop count rest
  pub size : count ≡ length line + 1

-- the verdict of what is left, after so many lines
abbrev pub Tells : Checked → Settings → Place → Text → ℕ → Type 0
Tells Checked.Yes told here rest lines = IsYes told here rest
Tells (Checked.No line) told here rest lines = (number : ℕ) × (line ≡ lines + number) × IsNo told here rest number

-- the verdict where the end of the output is due
pub record TellsEnd (checked : Checked) (f : Front) (rest : Text) (lines : ℕ) : Type 0 where
  pub tells : (told : Settings) → Tells checked told (Ends (end_bytes f.state)) rest lines

-- where a run stands in a script that was fed whole
abbrev pub place : Desk → Reading → Place
place run reader = Runs (front_of run) (trace true reader.passed reader.rest)

-- what the step finds that is next: its line is allowed and leads on; or what is left has its verdict; or no step is next
abbrev pub FindsStep : Found → Settings → Front → Front → Text → ℕ → Type 0
FindsStep (Found.Line count) told old new rest lines = (script : Trace) → IsTaken told (Runs old script) rest count (Runs new script)
FindsStep (Found.Over checked) told old new rest lines = (script : Trace) → Tells checked told (Runs old script) rest lines
FindsStep Found.Quiet told old new rest lines = IsFrontQuiet told old × (new ≡ old)

-- a line leads on to where such a run stands, or all that is left has its verdict
abbrev pub Finds : Turn → Settings → Place → Text → ℕ → (Desk → Place) → Type 0
Finds (Turn.Line run count) told here rest lines there = IsTaken told here rest count (there run)
Finds (Turn.Over checked) told here rest lines there = Tells checked told here rest lines

-- the run goes on with the same settings, and at most so many events happened to the machine
abbrev pub GoesOn : Turn → Desk → ℕ → Type 0
GoesOn (Turn.Line run count) old events = (told_of run ≡ told_of old) × (run.manager.events ≤ events)
GoesOn (Turn.Over checked) old events = Unit {0}

-- there is room for the events that are to come
abbrev pub HasRoom : Turn → Desk → Reading → Reading → Type 0
HasRoom (Turn.Line run count) old reader later = (told_of run ≡ told_of old) × (run.manager.events + length later.rest ≤ old.manager.events + length reader.rest)
HasRoom (Turn.Over checked) old reader later = Unit {0}

-- a turn of the check
pub record IsTurn (turn : Turn) (run : Desk) (reader : Reading) (rest : Text) (lines : ℕ) (later : Reading) : Type 0 where
  pub finds : Finds turn (told_of run) (place run reader) rest lines (λ next. place next later)
  pub room : HasRoom turn run reader later
  pub finished : later.finished ≡ reader.finished
