-- What a turn of the check finds: a line is allowed and the run goes on; or what is left has its verdict.
use Rattle.std.specs.Prelude.{ℕ, ◌+◌, ◌≡◌, ◌≤◌, Bool, true, false, [], ◌∷◌, ◌++◌, Option, Some, None, length, drop}
use Rattle.pnp_labels.specs.Texts.{Text, label_line}
use Rattle.pnp_labels.specs.declared.label.Label.{Label}
use Rattle.pnp_labels.specs.declared.words.Answer.{Answer}
use Rattle.pnp_model.specs.Records.{State, Settings, Step}
use Rattle.pnp_model.specs.Machine.{IsQuiet}
use Rattle.pnp_model.specs.Walks.{shown_of}
use Rattle.script_reader.specs.Reading.{Reading}
use Rattle.script_reader.specs.Script.{Trace, trace}
use Rattle.free_model.specs.Checks.{Place, Runs, Ends, Allows, IsYes, IsNo, end_bytes}
use Rattle.free_model.specs.Frees.{StepsBy}
use Rattle.free_run.specs.FreeRuns.{Free, settings}
use Rattle.trace_check.specs.declared.check.Checked.{Checked}
use Rattle.trace_check.specs.declared.step.Found.{Found}
use Rattle.trace_check.specs.declared.turn.Turn.{Turn}

-- whether a text begins with a line
abbrev pub IfFront : Bool → Text → Text → Type 0
IfFront true rest line = rest ≡ line ++ drop (length line) rest
IfFront false rest line = (more : Text) → rest ≡ line ++ more → ⊥

-- a line, with its LF, is at the front and has so many bytes; or it is not
abbrev pub IfStands : Option ℕ → Text → Text → Type 0
IfStands (Some count) rest line = (rest ≡ line ++ 10 ∷ drop count rest) × (count ≡ length line + 1)
IfStands None rest line = (more : Text) → rest ≡ line ++ 10 ∷ more → ⊥

-- no line of the ask of this label is at the front, whatever the answer
abbrev pub NoneStands : Label → Text → Type 0
NoneStands (Label.Asked minor path driver shown) rest = (answer : Answer) → IfFront false rest (label_line (Label.Asked minor path driver (shown_of minor answer)) ++ 10 ∷ [])
NoneStands (Label.Add path driver ok) rest = (ok : Bool) → IfFront false rest (label_line (Label.Add path driver ok) ++ 10 ∷ [])
NoneStands _ rest = Unit {0}

-- a step was made, and this is its line with its LF
abbrev pub HasStepped : Answer → Settings → State → Text → State → Type 0
HasStepped answer told old line new = (label : Label) × StepsBy answer told old label new × (line ≡ label_line label ++ 10 ∷ [])

-- this is what an event did, and this is its line with its LF
abbrev pub HasPrinted : Step → Free → Free → Text → Type 0
HasPrinted step old new line = (line ≡ label_line step.label ++ 10 ∷ []) × (new ≡ record old { events = old.events + 1; state = step.state })

-- so many bytes of what is left are a line that is allowed here, with its LF, and it leads there
pub record IsTaken (told : Settings) (here : Place) (rest : Text) (count : ℕ) (there : Place) : Type 0 where
  pub line : Text
  pub allows : Allows told here line there
  pub front : rest ≡ line ++ 10 ∷ drop count rest
  pub size : count ≡ length line + 1

-- the verdict of what is left, after so many lines
abbrev pub Tells : Checked → Settings → Place → Text → ℕ → Type 0
Tells Checked.Yes told here rest lines = IsYes told here rest
Tells (Checked.No line) told here rest lines = (number : ℕ) × (line ≡ lines + number) × IsNo told here rest number

-- the verdict where the end of the output is due
pub record TellsEnd (checked : Checked) (s : State) (rest : Text) (lines : ℕ) : Type 0 where
  pub tells : (told : Settings) → Tells checked told (Ends (end_bytes s)) rest lines

-- where a run stands in a script that was fed whole
abbrev pub place : Free → Reading → Place
place run reader = Runs run.state (trace true reader.passed reader.rest)

-- what the step finds that is next: its line is allowed and leads on; or what is left has its verdict; or no step is next
abbrev pub FindsStep : Found → Settings → State → State → Text → ℕ → Type 0
FindsStep (Found.Line count) told old new rest lines = (script : Trace) → IsTaken told (Runs old script) rest count (Runs new script)
FindsStep (Found.Over checked) told old new rest lines = (script : Trace) → Tells checked told (Runs old script) rest lines
FindsStep Found.Quiet told old new rest lines = IsQuiet told old × (new ≡ old)

-- a line leads on to where such a run stands, or all that is left has its verdict
abbrev pub Finds : Turn → Settings → Place → Text → ℕ → (Free → Place) → Type 0
Finds (Turn.Line run count) told here rest lines there = IsTaken told here rest count (there run)
Finds (Turn.Over checked) told here rest lines there = Tells checked told here rest lines

-- the run goes on with the same INFs and budget, and so many events happened
abbrev pub GoesOn : Turn → Free → ℕ → Type 0
GoesOn (Turn.Line run count) old events = run ≡ record old { events = events; state = run.state }
GoesOn (Turn.Over checked) old events = Unit {0}

-- there is room for the events that are to come
abbrev pub HasRoom : Turn → Free → Reading → Reading → Type 0
HasRoom (Turn.Line run count) old reader later =
    (run.infs ≡ old.infs) × (run.budget ≡ old.budget) × (run.events + length later.rest ≤ old.events + length reader.rest)
HasRoom (Turn.Over checked) old reader later = Unit {0}

-- a turn of the check
pub record IsTurn (turn : Turn) (run : Free) (reader : Reading) (rest : Text) (lines : ℕ) (later : Reading) : Type 0 where
  pub finds : Finds turn (settings run) (place run reader) rest lines (λ next. place next later)
  pub room : HasRoom turn run reader later
  pub finished : later.finished ≡ reader.finished
