-- What a run prints: the lines of its labels, the line of a bad line, and the end of the output.
use Rattle.std.specs.Prelude.{ℕ, ◌≡◌, List, [], ◌∷◌, ◌++◌, map, codes}
use Rattle.std.specs.Fmt.{decimal}
use Rattle.pnp_labels.specs.Texts.{Text, label_line}
use Rattle.pnp_labels.specs.declared.event.Event.{Event}
use Rattle.pnp_labels.specs.declared.label.Label.{Label}
use Rattle.pnp_model.specs.Records.{State, Settings}
use Rattle.pnp_model.specs.Endings.{ending, joined}
use Rattle.script_reader.specs.Script.{Trace, gives, waits, ends, stops}
use Rattle.notify_front.specs.Fronts.{Front, FrontEntry, FrontSteps, IsFrontQuiet, front_happens, front_printed}
use Rattle.notify_front.specs.Desks.{IsFrontDone}
use Rattle.free_model.specs.Checks.{IsOfMachine}

-- a step of the front prints this label
abbrev pub Makes : Settings → Front → Label → Front → Type 0
Makes settings f label new = (entry : FrontEntry) × (label ≡ front_printed entry) × FrontSteps settings f entry new

-- the front steps until it is quiet, and prints these labels
abbrev pub Settles : Settings → Front → List Label → Front → Type 0
Settles settings f [] new = (new ≡ f) × IsFrontQuiet settings f
Settles settings f (label ∷ labels) new = (mid : Front) × Makes settings f label mid × Settles settings mid labels new

-- an event happens, and the front steps until it is quiet again
pub record Follows (settings : Settings) (f : Front) (event : Event) (labels : List Label) (new : Front) : Type 0 where
  pub first : Label
  pub begun : Front
  pub more : List Label
  pub happened : IsFrontDone (front_happens f event) first begun
  pub printed : labels ≡ first ∷ more
  pub settled : Settles settings begun more new

-- From a quiet front, the events of a script happen one after another: these are all labels, up to the end of the script or
-- to its first bad line, and this is the last front.
abbrev pub Plays : Settings → Front → Trace → List Label → Front → Type 0
Plays settings f (gives number event rest) labels last =
    (here : List Label) × (new : Front) × (more : List Label)
    × Follows settings f event here new × Plays settings new rest more last × (labels ≡ here ++ more)
Plays settings f ends labels last = (labels ≡ []) × (last ≡ f)
Plays settings f (stops number) labels last = (labels ≡ []) × (last ≡ f)
Plays settings f waits labels last = ⊥

-- a line for each label
abbrev pub text_of : List Label → Text
text_of labels = joined (map label_line labels)

abbrev pub error_line : ℕ → Text
error_line number = codes "script error line " ++ decimal number ++ 10 ∷ []

-- the line of the first bad line, if there is one
abbrev pub bad_text : Trace → Text
bad_text (gives number event rest) = bad_text rest
bad_text waits = []
bad_text ends = []
bad_text (stops number) = error_line number

-- the end of the output: tree, map, and outstanding requests
abbrev pub end_text : State → Text
end_text s = joined (ending s)

-- what is written of all labels of a run and of its last state
abbrev pub Report : Type 0
Report = List Label → State → Text

-- the events of a script happen from a quiet front on, and the report of their run is this text
abbrev pub Shows : Settings → Front → Trace → Report → Text → Type 0
Shows settings f t report text = (labels : List Label) × (last : Front) × Plays settings f t labels last × (text ≡ report labels last.state)

-- what is written of labels and of a last state, for a script
abbrev pub written : Trace → Report
written t labels last = text_of labels ++ (bad_text t ++ end_text last)

-- what is written for the events of a script from a quiet front on, and for how it ends
abbrev pub Prints : Settings → Front → Trace → Text → Type 0
Prints settings f t text = Shows settings f t (written t) text

-- no line of the script is one of a client
abbrev pub HasNoClients : Trace → Type 0
HasNoClients (gives number event rest) = IsOfMachine event × HasNoClients rest
HasNoClients ends = Unit {0}
HasNoClients (stops number) = Unit {0}
HasNoClients waits = Unit {0}
