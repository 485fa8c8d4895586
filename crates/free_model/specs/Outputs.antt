-- What the machine alone writes for a script: the lines of its labels, the line of a bad line, and the end of the output.
use Rattle.std.specs.Prelude.{ℕ, ◌≡◌, List, [], ◌∷◌, ◌++◌, map, codes}
use Rattle.std.specs.Fmt.{decimal}
use Rattle.pnp_labels.specs.Texts.{Text, label_line}
use Rattle.pnp_labels.specs.declared.event.Event.{Event}
use Rattle.pnp_labels.specs.declared.label.Label.{Label}
use Rattle.pnp_labels.specs.declared.words.DriverKind.{DriverKind}
use Rattle.pnp_model.specs.Records.{Driver, State, Settings}
use Rattle.pnp_model.specs.Machine.{Steps, IsQuiet}
use Rattle.pnp_model.specs.Events.{happens}
use Rattle.pnp_model.specs.Endings.{ending, joined}
use Rattle.pnp_model.specs.Runs.{opening}
use Rattle.script_reader.specs.Script.{Trace, gives, waits, ends, stops}
use Rattle.free_model.specs.Shapes.{AreOf}
use Rattle.free_model.specs.Runs.{IsUntaught}
use Rattle.free_model.specs.Checks.{IsOfMachine, IsYes, beginning}

-- the machine steps until it is quiet, and prints these labels
abbrev pub Settles : Settings → State → List Label → State → Type 0
Settles settings s [] new = (new ≡ s) × IsQuiet settings s
Settles settings s (label ∷ labels) new = (mid : State) × Steps settings s label mid × Settles settings mid labels new

-- an event happens, which is none of a client, and the machine steps until it is quiet again
pub record Follows (settings : Settings) (s : State) (event : Event) (labels : List Label) (new : State) : Type 0 where
  pub own : IsOfMachine event
  pub first : Label
  pub begun : State
  pub more : List Label
  pub happened : happens s event ≡ record { label = first; state = begun }
  pub printed : labels ≡ first ∷ more
  pub settled : Settles settings begun more new

-- a line for each label
abbrev pub text_of : List Label → Text
text_of labels = joined (map label_line labels)

abbrev pub error_line : ℕ → Text
error_line number = codes "script error line " ++ decimal number ++ 10 ∷ []

-- the end of the output: tree, map, and outstanding requests
abbrev pub end_text : State → Text
end_text s = joined (ending s)

-- what is written for the events of a script from a quiet state on, and for how it ends
abbrev pub MachinePrints : Settings → State → Trace → Text → Type 0
MachinePrints settings s (gives number event rest) out =
    (labels : List Label) × (new : State) × (more : Text)
    × Follows settings s event labels new × MachinePrints settings new rest more × (out ≡ text_of labels ++ more)
MachinePrints settings s ends out = out ≡ end_text s
MachinePrints settings s (stops number) out = out ≡ error_line number ++ end_text s
MachinePrints settings s waits out = ⊥

-- The law: the output of every script, for every rack of these kinds of which those that can be taught were taught nothing, is a run.
abbrev pub EachOutputIsARunLaw : Type 0
EachOutputIsARunLaw =
    (settings : Settings) (kinds : List DriverKind) (rack : List Driver) (script : Trace) (out : Text)
    → AreOf kinds rack → MachinePrints settings (opening rack) script out → IsYes settings (beginning kinds script) out

-- no line of the script teaches a driver
abbrev pub TeachesNone : Trace → Type 0
TeachesNone (gives number event rest) = IsUntaught event × TeachesNone rest
TeachesNone ends = Unit {0}
TeachesNone (stops number) = Unit {0}
TeachesNone waits = Unit {0}

-- The converse, for scripts that teach no driver: each trace that is a run is the output over some drivers of these kinds.
abbrev pub EachRunIsAnOutputLaw : Type 0
EachRunIsAnOutputLaw =
    (settings : Settings) (kinds : List DriverKind) (script : Trace) (out : Text) → TeachesNone script → IsYes settings (beginning kinds script) out
    → (rack : List Driver) × (map (λ d. d.kind) rack ≡ kinds) × MachinePrints settings (opening rack) script out
