-- The page for a play of a script: a line for each label of its run, an arrow for each ask, an end for each completion, how it ends, and the states behind its rows.
use Rattle.std.specs.Prelude.{ℕ, ◌≡◌, Bool, true, false, List, [], ◌∷◌, ◌++◌, Option, Some, None, codes}
use Rattle.std.specs.Fmt.{decimal}
use Rattle.pnp_labels.specs.Texts.{Text}
use Rattle.pnp_labels.specs.declared.label.Label.{Label}
use Rattle.pnp_model.specs.Records.{Settings}
use Rattle.notify_front.specs.Fronts.{Front}
use Rattle.notify_front.specs.Desks.{front_of, told_of}
use Rattle.script_reader.specs.Script.{Trace}
use Rattle.pnp_cli.specs.Outputs.{Plays, bad_text, end_text}
use Rattle.pnp_cli.specs.Contents.{answer_of}
use Rattle.pnp_cli.specs.declared.status.Status.{Status}
use Rattle.script_play.specs.Playing.{Playing, Played, PlaysOn, Ended, left_of}
use Rattle.view_page.specs.Pages.{IsPage, Mark}
use Rattle.view_page.specs.declared.words.Part.{Part}
use Rattle.view_page.specs.declared.words.Tag.{Tag}
use Rattle.view_trace.specs.Rows.{rows}
use Rattle.view_states.specs.States.{Tells, Telling}

-- The states of a run ---------------------------------------------------------------------

-- a run comes to this front behind these labels: whatever follows from there on, follows them in the run
pub record IsReached (settings : Settings) (f : Front) (t : Trace) (labels : List Label) (here : Front) : Type 0 where
  pub left : Trace
  pub leads : (more : List Label) (last : Front) → PlaysOn settings here left more last → Plays settings f t (labels ++ more) last

-- Texts for the labels of a run: for each the end of the output, as it would be printed of the state behind it, or none.
pub data AreEnds (settings : Settings) (f : Front) (t : Trace) : List Label → List (Option Text) → Type 0 where
  none : AreEnds settings f t [] []
  told : (labels : List Label) (texts : List (Option Text)) (label : Label) (here : Front) → AreEnds settings f t labels texts → IsReached settings f t (labels ++ label ∷ []) here
      → AreEnds settings f t (labels ++ label ∷ []) (texts ++ Some (end_text here.state) ∷ [])
  passed : (labels : List Label) (texts : List (Option Text)) (label : Label) → AreEnds settings f t labels texts → AreEnds settings f t (labels ++ label ∷ []) (texts ++ None ∷ [])

-- a text that is written tells such texts
pub record TellsStates (settings : Settings) (f : Front) (t : Trace) (labels : List Label) (states : Telling) : Type 0 where
  pub texts : List (Option Text)
  pub ends : AreEnds settings f t labels texts
  pub tells : Tells states.written texts states.last

-- The marks of a page ---------------------------------------------------------------------

-- the bad line, if there is one, in an element of its own, without its line feed
pub data BadMarks : Text → List Mark → Type 0 where
  none : BadMarks [] []
  line : (words : Text) → BadMarks (words ++ 10 ∷ []) ((Part.Words Tag.P, words) ∷ [])

-- what stands of a text in an element of its own, where it is not empty
abbrev pub second_marks : Text → List Mark
second_marks [] = []
second_marks (byte ∷ text) = (Part.Words Tag.Pre, byte ∷ text) ∷ []

-- a text in one element or in two
pub record IsEnd (text : Text) (marks : List Mark) : Type 0 where
  pub first : Text
  pub second : Text
  pub all : text ≡ first ++ second
  pub marked : marks ≡ (Part.Words Tag.Pre, first) ∷ second_marks second

-- the states, where they are wanted
abbrev pub state_marks : Bool → Telling → List Mark
state_marks false states = []
state_marks true states = (Part.Words Tag.Data, states.written) ∷ []

-- what is told of the states behind the rows, where it is wanted
abbrev pub StateMarks : Bool → Settings → Front → Trace → List Label → List Mark → Type 0
StateMarks false settings f t labels marks = marks ≡ []
StateMarks true settings f t labels marks = (states : Telling) × TellsStates settings f t labels states × (marks ≡ state_marks true states)

-- The events of a script happen from a front on, and a text is a page of their run: it has the line of each label, in order, with an arrow
-- for each ask, an end for each completion and no other, the bad line, the end of the output, and the states behind its rows, where they are wanted.
pub record IsRunView (steps : Bool) (settings : Settings) (f : Front) (t : Trace) (text : Text) : Type 0 where
  pub labels : List Label
  pub last : Front
  pub plays : Plays settings f t labels last
  pub bad : List Mark
  pub end : List Mark
  pub states : List Mark
  pub is_bad : BadMarks (bad_text t) bad
  pub is_end : IsEnd (end_text last.state) end
  pub is_told : StateMarks steps settings f t labels states
  pub page : IsPage (rows labels ++ bad ++ end ++ states) text

-- the same, and the answer
pub record IsViewing (steps : Bool) (settings : Settings) (f : Front) (t : Trace) (text : Text) (status : Status) : Type 0 where
  pub view : IsRunView steps settings f t text
  pub answer : answer_of t ≡ status

-- the same of a play
abbrev pub ViewsPlay : Bool → Playing → Text → Status → Type 0
ViewsPlay steps p text status = IsViewing steps (told_of p.desk) (front_of p.desk) (left_of p) text status

-- While it is drawn -----------------------------------------------------------------------

-- the marks so far are those of the rows of the labels so far, and the states so far theirs
pub record Drawing (start : Playing) (marks : List Mark) (states : Telling) (now : Playing) : Type 0 where
  pub labels : List Label
  pub played : Played start labels now
  pub settings : told_of now.desk ≡ told_of start.desk
  pub lines : marks ≡ rows labels
  pub told : TellsStates (told_of start.desk) (front_of start.desk) (left_of start) labels states

-- and of all labels
pub record Drawn (start : Playing) (marks : List Mark) (states : Telling) (now : Playing) : Type 0 where
  pub labels : List Label
  pub ended : Ended start labels now
  pub lines : marks ≡ rows labels
  pub told : TellsStates (told_of start.desk) (front_of start.desk) (left_of start) labels states

-- the state that is there now is told next, or none
abbrev pub IsOfNow : Option Text → Playing → Type 0
IsOfNow None now = Unit {0}
IsOfNow (Some text) now = text ≡ end_text (front_of now.desk).state

pub record TellsNext (old : Telling) (now : Playing) (new : Telling) : Type 0 where
  pub text : Option Text
  pub is : IsOfNow text now
  pub tells : (texts : List (Option Text)) → Tells old.written texts old.last → Tells new.written (texts ++ text ∷ []) new.last

-- the bad line by its number
abbrev pub bad_marks : Option ℕ → List Mark
bad_marks None = []
bad_marks (Some number) = (Part.Words Tag.P, codes "script error line " ++ decimal number) ∷ []

-- the end is drawn
pub record EndsBy (text : Text) (old new : List Mark) : Type 0 where
  pub marks : List Mark
  pub is : IsEnd text marks
  pub added : new ≡ old ++ marks

-- all is drawn
pub record Finished (steps : Bool) (start : Playing) (marks : List Mark) (now : Playing) : Type 0 where
  pub lines : List Mark
  pub states : Telling
  pub end : List Mark
  pub drawn : Drawn start lines states now
  pub is_end : IsEnd (end_text (front_of now.desk).state) end
  pub all : marks ≡ lines ++ bad_marks now.bad ++ end ++ state_marks steps states
