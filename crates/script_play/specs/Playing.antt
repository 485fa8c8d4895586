-- A run of a script that is there whole, one label at a time.
use Rattle.std.specs.Prelude.{ℕ, ◌≡◌, ◌≤◌, ◌<◌, ◌+◌, ◌^◌, true, List, [], ◌∷◌, ◌++◌, Option, Some, None, length}
use Rattle.pnp_labels.specs.declared.label.Label.{Label}
use Rattle.pnp_model.specs.Records.{Settings}
use Rattle.notify_front.specs.Fronts.{Front, IsFrontQuiet}
use Rattle.notify_front.specs.Desks.{Desk, IsOfFrontRun, front_of, told_of}
use Rattle.script_reader.specs.Reading.{Reading}
use Rattle.script_reader.specs.Script.{Trace, trace}
use Rattle.pnp_cli.specs.Outputs.{Makes, Settles, Plays, bad_text}
use Rattle.pnp_cli.specs.Contents.{events_of, answer_of}
use Rattle.pnp_cli.specs.Pieces.{line_of_bad, answer_by}
use Rattle.script_play.specs.declared.play.Happened.{Happened}

-- a front, a reader, and the number of the bad line, once it was met
pub record Playing : Type 0 where
  pub desk : Desk
  pub reading : Reading
  pub bad : Option ℕ

-- the front is one of a run, no more is fed, and there is room for what is left
pub record IsPlaying (p : Playing) : Type 0 where
  pub run : IsOfFrontRun (told_of p.desk) p.desk.manager.events (front_of p.desk)
  pub shut : p.reading.finished ≡ true
  pub room : p.desk.manager.events + length p.reading.rest ≤ 2 ^ 24

-- the events that are left
abbrev pub left_of : Playing → Trace
left_of p = trace p.reading.finished p.reading.passed p.reading.rest

-- all is left of a script
pub record Begins (front : Desk) (script : List ℕ) (p : Playing) : Type 0 where
  pub is : p.desk ≡ front
  pub left : left_of p ≡ events_of script

-- From a front that need not be quiet: first what follows by itself, and then the events.
pub record PlaysOn (settings : Settings) (f : Front) (t : Trace) (labels : List Label) (last : Front) : Type 0 where
  pub here : List Label
  pub quiet : Front
  pub more : List Label
  pub settles : Settles settings f here quiet
  pub plays : Plays settings quiet t more last
  pub is : labels ≡ here ++ more

-- These labels were told since the start: with those of whatever follows now they are all labels of the whole run.
pub record Played (start : Playing) (labels : List Label) (now : Playing) : Type 0 where
  pub leads : (more : List Label) (last : Front) → PlaysOn (told_of now.desk) (front_of now.desk) (left_of now) more last
      → Plays (told_of start.desk) (front_of start.desk) (left_of start) (labels ++ more) last
  pub bad : bad_text (left_of start) ≡ bad_text (left_of now)
  pub answer : answer_of (left_of start) ≡ answer_of (left_of now)

-- these are all labels of the run, this is its last front, and this the number of the bad line
pub record Ended (start : Playing) (labels : List Label) (now : Playing) : Type 0 where
  pub plays : Plays (told_of start.desk) (front_of start.desk) (left_of start) labels (front_of now.desk)
  pub bad : bad_text (left_of start) ≡ line_of_bad now.bad
  pub answer : answer_of (left_of start) ≡ answer_by now.bad

-- What a step comes to ------------------------------------------------------------------

-- a step of the front, which was one of a run, prints the label
pub record IsStepped (label : Label) (old new : Playing) : Type 0 where
  pub makes : Makes (told_of old.desk) (front_of old.desk) label (front_of new.desk)
  pub run : IsOfFrontRun (told_of old.desk) old.desk.manager.events (front_of old.desk)
  pub same : told_of new.desk ≡ told_of old.desk
  pub reading : new.reading ≡ old.reading

abbrev pub Stepped : Option Label → Playing → Playing → Type 0
Stepped (Some label) old new = IsStepped label old new
Stepped None old new = IsFrontQuiet (told_of new.desk) (front_of new.desk) × (new.reading ≡ old.reading)

abbrev pub StepTold : Playing → List Label → Option Label → Playing → Type 0
StepTold start labels (Some label) new = Played start (labels ++ label ∷ []) new
StepTold start labels None new = Played start labels new

-- What an event comes to ----------------------------------------------------------------

-- less is left of the script
abbrev pub Came : Option Happened → Playing → Playing → Type 0
Came (Some happened) old new = length new.reading.rest < length old.reading.rest
Came None old new = new.desk ≡ old.desk

abbrev pub EventTold : Playing → List Label → Option Happened → Playing → Type 0
EventTold start labels (Some happened) new = Played start (labels ++ happened.label ∷ []) new
EventTold start labels None new = Ended start labels new
