-- Which traces are runs: which line is allowed next, and how far the lines of a trace are.
use Rattle.std.specs.Prelude.{ℕ, ◌+◌, ◌==◌, ◌≡◌, ◌⊎◌, Bool, false, ◌||◌, List, [], ◌∷◌, ◌++◌, codes, length}
use Rattle.std.specs.Fmt.{decimal}
use Rattle.pnp_labels.specs.Texts.{Text, label_line}
use Rattle.pnp_labels.specs.declared.event.Event.{Event}
use Rattle.pnp_labels.specs.declared.label.Label.{Label}
use Rattle.pnp_labels.specs.declared.words.DriverKind.{DriverKind}
use Rattle.pnp_model.specs.Records.{State, Settings}
use Rattle.pnp_model.specs.Machine.{IsQuiet}
use Rattle.pnp_model.specs.Events.{happens}
use Rattle.pnp_model.specs.Endings.{ending, joined}
use Rattle.script_reader.specs.Script.{Trace, gives, waits, ends, stops}
use Rattle.free_model.specs.Frees.{FreeSteps, free_opening}

-- Where a trace stands: the machine runs, and this is still to come of the script; or the output ends, and these bytes are due.
pub data Place : Type 0 where
  Runs : (s : State) (script : Trace) → Place
  Ends : (due : Text) → Place

abbrev pub bad_line : ℕ → Text
bad_line number = codes "script error line " ++ decimal number

abbrev pub has_feed : Text → Bool
has_feed [] = false
has_feed (byte ∷ bytes) = byte == 10 || has_feed bytes

-- the first line of what is due
abbrev pub AllowsFirst : Text → Text → Place → Type 0
AllowsFirst due line next = (more : Text) × (due ≡ line ++ 10 ∷ more) × (has_feed line ≡ false) × (next ≡ Ends more)

abbrev pub end_bytes : State → Text
end_bytes s = joined (ending s)

-- what happens to the machine itself; it knows no clients, so a trace with lines of clients is no run of it
abbrev pub IsOfMachine : Event → Type 0
IsOfMachine (Event.Watch client path agrees) = ⊥
IsOfMachine (Event.Unwatch client path) = ⊥
IsOfMachine _ = Unit {0}

-- at a quiet state: the line of the next event; or that of the bad line; or the end of the output
abbrev pub AllowsAtRest : State → Trace → Text → Place → Type 0
AllowsAtRest s (gives number event rest) line next =
    IsOfMachine event × (line ≡ label_line (happens s event).label) × (next ≡ Runs (happens s event).state rest)
AllowsAtRest s (stops number) line next = (line ≡ bad_line number) × (next ≡ Ends (end_bytes s))
AllowsAtRest s ends line next = AllowsFirst (end_bytes s) line next
AllowsAtRest s waits line next = ⊥

-- the line of a step
abbrev pub AllowsStep : Settings → State → Trace → Text → Place → Type 0
AllowsStep settings s script line next =
    (label : Label) × (new : State) × FreeSteps settings s label new × (line ≡ label_line label) × (next ≡ Runs new script)

-- this line is allowed here, and leads there
abbrev pub Allows : Settings → Place → Text → Place → Type 0
Allows settings (Ends due) line next = AllowsFirst due line next
Allows settings (Runs s script) line next =
    AllowsStep settings s script line next ⊎ (IsQuiet settings s × AllowsAtRest s script line next)

-- these lines are allowed, one after another
abbrev pub Follow : Settings → Place → List Text → Place → Type 0
Follow settings here [] there = there ≡ here
Follow settings here (line ∷ lines) there = (mid : Place) × Allows settings here line mid × Follow settings mid lines there

-- the trace does not go on here with an allowed line and its LF; nor does it end where nothing is due
pub record IsStuck (settings : Settings) (here : Place) (rest : Text) : Type 0 where
  pub unallowed : (line more : Text) (next : Place) → rest ≡ line ++ 10 ∷ more → Allows settings here line next → ⊥
  pub undone : rest ≡ [] → here ≡ Ends [] → ⊥

pub data Verdict : Type 0 where
  Yes : Verdict
  No : (line : ℕ) → Verdict

-- all lines of the trace are allowed, and none more is due
abbrev pub IsYes : Settings → Place → Text → Type 0
IsYes settings here trace = (lines : List Text) × Follow settings here lines (Ends []) × (trace ≡ joined lines)

-- so many lines are allowed, and then one is not, or one is due that is not there
abbrev pub IsNo : Settings → Place → Text → ℕ → Type 0
IsNo settings here trace number =
    (lines : List Text) × (there : Place) × (rest : Text) × Follow settings here lines there × (trace ≡ joined lines ++ rest)
    × IsStuck settings there rest × (number ≡ length lines + 1)

abbrev pub IsChecked : Settings → Place → Text → Verdict → Type 0
IsChecked settings here trace Yes = IsYes settings here trace
IsChecked settings here trace (No number) = IsNo settings here trace number

-- where each trace begins
abbrev pub beginning : List DriverKind → Trace → Place
beginning kinds script = Runs (free_opening kinds) script
