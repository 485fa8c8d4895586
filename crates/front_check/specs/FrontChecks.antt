-- Which traces of a script with clients are runs: which line is allowed next, and how far the lines of a trace are. It is the machine's
-- definition with the front in its place: the drivers' answers are free, a client's are those that it registered with, and an event of
-- a client is one as any other.
use Rattle.std.specs.Prelude.{ℕ, ◌+◌, ◌≡◌, ◌⊎◌, false, List, [], ◌∷◌, ◌++◌, length}
use Rattle.pnp_labels.specs.Texts.{Text, label_line}
use Rattle.pnp_labels.specs.declared.words.DriverKind.{DriverKind}
use Rattle.pnp_model.specs.Records.{Settings}
use Rattle.pnp_model.specs.Endings.{joined}
use Rattle.script_reader.specs.Script.{Trace, gives, waits, ends, stops}
use Rattle.free_model.specs.Checks.{Verdict, Yes, No, bad_line, end_bytes, has_feed}
use Rattle.notify_front.specs.Fronts.{Front, FrontEntry, IsFrontQuiet, front_happens, front_printed}
use Rattle.free_front.specs.FreeFronts.{FreeFrontSteps, free_opening_front}

-- Where a trace stands: the front runs, and this is still to come of the script; or the output ends, and these bytes are due.
pub data Place : Type 0 where
  Runs : (f : Front) (script : Trace) → Place
  Ends : (due : Text) → Place

-- the first line of what is due
abbrev pub AllowsFirst : Text → Text → Place → Type 0
AllowsFirst due line next = (more : Text) × (due ≡ line ++ 10 ∷ more) × (has_feed line ≡ false) × (next ≡ Ends more)

-- at a quiet front: the line of the next event; or that of the bad line; or the end of the output
abbrev pub AllowsAtRest : Front → Trace → Text → Place → Type 0
AllowsAtRest f (gives number event rest) line next =
    (line ≡ label_line (front_printed (front_happens f event).entry)) × (next ≡ Runs (front_happens f event).front rest)
AllowsAtRest f (stops number) line next = (line ≡ bad_line number) × (next ≡ Ends (end_bytes f.state))
AllowsAtRest f ends line next = AllowsFirst (end_bytes f.state) line next
AllowsAtRest f waits line next = ⊥

-- the line of a step: a notice, a `declined`, or a step of the machine
abbrev pub AllowsStep : Settings → Front → Trace → Text → Place → Type 0
AllowsStep settings f script line next =
    (entry : FrontEntry) × (new : Front) × FreeFrontSteps settings f entry new × (line ≡ label_line (front_printed entry)) × (next ≡ Runs new script)

-- this line is allowed here, and leads there
abbrev pub Allows : Settings → Place → Text → Place → Type 0
Allows settings (Ends due) line next = AllowsFirst due line next
Allows settings (Runs f script) line next =
    AllowsStep settings f script line next ⊎ (IsFrontQuiet settings f × AllowsAtRest f script line next)

-- these lines are allowed, one after another
abbrev pub Follow : Settings → Place → List Text → Place → Type 0
Follow settings here [] there = there ≡ here
Follow settings here (line ∷ lines) there = (mid : Place) × Allows settings here line mid × Follow settings mid lines there

-- the trace does not go on here with an allowed line and its LF; nor does it end where nothing is due
pub record IsStuck (settings : Settings) (here : Place) (rest : Text) : Type 0 where
  pub unallowed : (line more : Text) (next : Place) → rest ≡ line ++ 10 ∷ more → Allows settings here line next → ⊥
  pub undone : rest ≡ [] → here ≡ Ends [] → ⊥

-- all lines of the trace are allowed, and none more is due
abbrev pub IsYes : Settings → Place → Text → Type 0
IsYes settings here trace = (lines : List Text) × Follow settings here lines (Ends []) × (trace ≡ joined lines)

-- so many lines are allowed, and then one is not, or one is due that is not there
abbrev pub IsNo : Settings → Place → Text → ℕ → Type 0
IsNo settings here trace number =
    (lines : List Text) × (there : Place) × (rest : Text) × Follow settings here lines there × (trace ≡ joined lines ++ rest)
    × IsStuck settings there rest × (number ≡ length lines + 1)

abbrev pub IsChecked : Settings → Place → Text → Verdict → Type 0
IsChecked settings here trace Yes = IsYes settings here trace
IsChecked settings here trace (No number) = IsNo settings here trace number

-- where each trace begins
abbrev pub beginning : List DriverKind → Trace → Place
beginning kinds script = Runs (free_opening_front kinds) script
