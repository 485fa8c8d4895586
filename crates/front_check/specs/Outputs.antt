-- What the front writes for a script: the lines of its labels, the line of a bad line, and the end of the output.
use Rattle.std.specs.Prelude.{◌≡◌, List, [], ◌∷◌, ◌++◌}
use Rattle.pnp_labels.specs.Texts.{Text}
use Rattle.pnp_labels.specs.declared.event.Event.{Event}
use Rattle.pnp_labels.specs.declared.label.Label.{Label}
use Rattle.pnp_model.specs.Records.{Settings}
use Rattle.script_reader.specs.Script.{Trace, gives, waits, ends, stops}
use Rattle.free_model.specs.Outputs.{end_text, error_line, text_of}
use Rattle.notify_front.specs.Desks.{IsFrontDone}
use Rattle.notify_front.specs.Fronts.{Front, FrontEntry, FrontSteps, IsFrontQuiet, front_happens, front_printed}

-- a step of the front prints this label
abbrev pub Makes : Settings → Front → Label → Front → Type 0
Makes settings f label new = (entry : FrontEntry) × (label ≡ front_printed entry) × FrontSteps settings f entry new

-- the front steps until it is quiet, and prints these labels
abbrev pub Settles : Settings → Front → List Label → Front → Type 0
Settles settings f [] new = (new ≡ f) × IsFrontQuiet settings f
Settles settings f (label ∷ labels) new = (mid : Front) × Makes settings f label mid × Settles settings mid labels new

-- an event happens, and the front steps until it is quiet again
pub record Follows (settings : Settings) (f : Front) (event : Event) (labels : List Label) (new : Front) : Type 0 where
  pub first : Label
  pub begun : Front
  pub more : List Label
  pub happened : IsFrontDone (front_happens f event) first begun
  pub printed : labels ≡ first ∷ more
  pub settled : Settles settings begun more new

-- what is written for the events of a script from a quiet front on, and for how it ends
abbrev pub FrontPrints : Settings → Front → Trace → Text → Type 0
FrontPrints settings f (gives number event rest) out =
    (labels : List Label) × (new : Front) × (more : Text)
    × Follows settings f event labels new × FrontPrints settings new rest more × (out ≡ text_of labels ++ more)
FrontPrints settings f ends out = out ≡ end_text f.state
FrontPrints settings f (stops number) out = out ≡ error_line number ++ end_text f.state
FrontPrints settings f waits out = ⊥
