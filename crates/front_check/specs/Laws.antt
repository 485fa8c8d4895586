-- What is proved of the check.
use Rattle.std.specs.Prelude.{◌≡◌, ◌∷◌, ◌++◌, List}
use Rattle.pnp_labels.specs.Texts.{Text}
use Rattle.pnp_labels.specs.declared.words.DriverKind.{DriverKind}
use Rattle.pnp_model.specs.Records.{Driver, Settings}
use Rattle.pnp_model.specs.Runs.{opening}
use Rattle.script_reader.specs.Script.{Trace, gives, waits, ends, stops}
use Rattle.free_model.specs.Checks as machine
use Rattle.free_model.specs.Checks.{IsOfMachine, Verdict}
use Rattle.free_model.specs.Shapes.{AreOf}
use Rattle.notify_front.specs.Fronts.{opening_front}
use Rattle.front_check.specs.FrontChecks.{Place, Allows, IsChecked, IsYes, beginning}
use Rattle.front_check.specs.Outputs.{FrontPrints}

-- of the lines that are allowed at a place at most one begins a text, and it leads to one place
abbrev pub OnePlaceLaw : Type 0
OnePlaceLaw =
    (settings : Settings) (here : Place) (k l m n : Text) (x y : Place) → Allows settings here k x → Allows settings here l y
    → k ++ 10 ∷ m ≡ l ++ 10 ∷ n → (k ≡ l) × (x ≡ y)

-- a trace has one verdict
abbrev pub OneVerdictLaw : Type 0
OneVerdictLaw = (settings : Settings) (here : Place) (trace : Text) (v w : Verdict) → IsChecked settings here trace v → IsChecked settings here trace w → v ≡ w

-- The output of the front for every script, for every rack of these kinds of which those that can be taught were taught nothing, is a run.
abbrev pub EachOutputIsARunLaw : Type 0
EachOutputIsARunLaw =
    (settings : Settings) (kinds : List DriverKind) (rack : List Driver) (script : Trace) (out : Text)
    → AreOf kinds rack → FrontPrints settings (opening_front (opening rack)) script out → IsYes settings (beginning kinds script) out

-- no line of the script is one of a client
abbrev pub HasNoClients : Trace → Type 0
HasNoClients (gives number event rest) = IsOfMachine event × HasNoClients rest
HasNoClients ends = Unit {0}
HasNoClients (stops number) = Unit {0}
HasNoClients waits = Unit {0}

-- without clients the front's check is the machine's: a trace has the one verdict where it has the other
abbrev pub SameWithoutClientsLaw : Type 0
SameWithoutClientsLaw =
    (settings : Settings) (kinds : List DriverKind) (script : Trace) (trace : Text) (verdict : Verdict) → HasNoClients script
    → (machine.IsChecked settings (machine.beginning kinds script) trace verdict → IsChecked settings (beginning kinds script) trace verdict)
    × (IsChecked settings (beginning kinds script) trace verdict → machine.IsChecked settings (machine.beginning kinds script) trace verdict)
