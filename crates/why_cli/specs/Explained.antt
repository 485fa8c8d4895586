-- The text for a play of a script: its labels with notes, and the end of the output.
use Rattle.std.specs.Prelude.{◌≡◌, List, Bool, true, false}
use Rattle.pnp_labels.specs.Texts.{Text}
use Rattle.pnp_labels.specs.declared.label.Label.{Label}
use Rattle.pnp_model.specs.Records.{Settings}
use Rattle.notify_front.specs.Fronts.{Front}
use Rattle.notify_front.specs.Desks.{front_of, told_of}
use Rattle.script_reader.specs.Script.{Trace}
use Rattle.pnp_cli.specs.Outputs.{Prints, text_of}
use Rattle.pnp_cli.specs.Contents.{answer_of}
use Rattle.pnp_cli.specs.declared.status.Status.{Status}
use Rattle.script_play.specs.Playing.{Playing, Played, Ended, left_of}
use Rattle.why_cli.specs.Woven.{HasNotes, IsWoven}

-- the event was refused, and so nothing of what it said came to be
abbrev pub is_refused : Label → Bool
is_refused (Label.Refused word reason) = true
is_refused _ = false

-- the labels so far were written, with notes
pub record Writing (start : Playing) (text : Text) (now : Playing) : Type 0 where
  pub labels : List Label
  pub played : Played start labels now
  pub notes : HasNotes (text_of labels) text

-- all labels were
pub record Written (start : Playing) (text : Text) (now : Playing) : Type 0 where
  pub labels : List Label
  pub ended : Ended start labels now
  pub notes : HasNotes (text_of labels) text

-- what is printed for the events of a script from a front on, with notes, and the answer
pub record IsExplanation (settings : Settings) (f : Front) (t : Trace) (text : Text) (status : Status) : Type 0 where
  pub output : Text
  pub prints : Prints settings f t output
  pub woven : IsWoven output text
  pub answer : answer_of t ≡ status

-- the same of a play
abbrev pub ExplainsPlay : Playing → Text → Status → Type 0
ExplainsPlay p text status = IsExplanation (told_of p.desk) (front_of p.desk) (left_of p) text status
