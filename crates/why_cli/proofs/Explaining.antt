-- The text for a play, and for a script.
use Rattle.std.proofs.Common.{◌≡◌, ℕ, ◌<◌, List, [], ◌∷◌, ◌++◌, Option, Some, None, IfOk, Result, Ok, Err, refl, sym, ◌∙◌, ap, subst, append_assoc}
use Rattle.pnp_labels.specs.Texts.{Text}
use Rattle.pnp_labels.specs.declared.label.Label.{Label}
use Rattle.pnp_machine.specs.Managers.{Manager, settings}
use Rattle.notify_front.specs.Fronts.{opening_front}
use Rattle.notify_front.specs.Desks.{Desk, front_of, told_of, opening_desk}
use Rattle.script_reader.specs.Script.{Trace}
use Rattle.pnp_cli.specs.Contents.{events_of}
use Rattle.pnp_cli.specs.Outputs.{end_text, text_of, written}
use Rattle.pnp_cli.specs.Pieces.{line_of_bad, answer_by}
use Rattle.pnp_cli.specs.declared.status.Status.{Status}
use Rattle.script_play.specs.Playing.{Playing, Played, Begins, Stepped, StepTold, EventTold, left_of}
use Rattle.script_play.specs.declared.play.Happened.{Happened}
use Rattle.script_play.proofs.Plays.{fewer_left}
use Rattle.notify_front.proofs.FrontLeft.{front_steps_left}
use Rattle.why_cli.specs.Woven.{HasNotes}
use Rattle.why_cli.specs.Explained.{Writing, Written, IsExplanation, ExplainsPlay}
use Rattle.why_cli.specs.declared.explained.Explained.{Explained}
use Rattle.why_cli.proofs.Weaving.{notes_none, notes_bad}

-- nothing was told yet
pub writing_none : (p : Playing) (text : Text) → text ≡ [] → Played p [] p → Writing p text p
writing_none p text none played = record { labels = []; played = played; notes = subst (λ (x : Text). HasNotes [] x) (sym none) notes_none }

-- Label after label -------------------------------------------------------------------------

-- a step with a label
pub writing_step : (start old new : Playing) (text text' : Text) (o : Option Label) (label : Label) → o ≡ Some label → ((labels : List Label) → Played start labels old → StepTold start labels o new)
    → ((labels : List Label) → HasNotes (text_of labels) text → HasNotes (text_of (labels ++ label ∷ [])) text') → Writing start text old → Writing start text' new
writing_step start old new text text' o label is played notes w =
    record {
      labels = w.labels ++ label ∷ [];
      played = subst (λ (x : Option Label). StepTold start w.labels x new) is (played w.labels w.played);
      notes = notes w.labels w.notes;
    }

-- one without
pub writing_still : (start old new : Playing) (text : Text) (o : Option Label) → o ≡ None → ((labels : List Label) → Played start labels old → StepTold start labels o new) → Writing start text old → Writing start text new
writing_still start old new text o is played w =
    record { labels = w.labels; played = subst (λ (x : Option Label). StepTold start w.labels x new) is (played w.labels w.played); notes = w.notes }

pub stepped_still : (old new : Playing) (o : Option Label) → o ≡ None → Stepped o old new → Stepped None old new
stepped_still old new o is h = subst (λ (x : Option Label). Stepped x old new) is h

pub fewer_steps : (old new : Playing) (o : Option Label) (label : Label) → o ≡ Some label → Stepped o old new
    → front_steps_left (told_of new.desk) (front_of new.desk) < front_steps_left (told_of old.desk) (front_of old.desk)
fewer_steps old new o label is h = fewer_left label old new (subst (λ (x : Option Label). Stepped x old new) is h)

pub reading_same : (old new : Playing) (o : Option Label) (label : Label) → o ≡ Some label → Stepped o old new → new.reading ≡ old.reading
reading_same old new o label is h = (subst (λ (x : Option Label). Stepped x old new) is h).reading

-- an event
pub writing_event : (start old new : Playing) (text text' : Text) (o : Option Happened) (happened : Happened) → o ≡ Some happened → ((labels : List Label) → Played start labels old → EventTold start labels o new)
    → ((labels : List Label) → HasNotes (text_of labels) text → HasNotes (text_of (labels ++ happened.label ∷ [])) text') → Writing start text old → Writing start text' new
writing_event start old new text text' o happened is played notes w =
    record {
      labels = w.labels ++ happened.label ∷ [];
      played = subst (λ (x : Option Happened). EventTold start w.labels x new) is (played w.labels w.played);
      notes = notes w.labels w.notes;
    }

-- the end
pub written_by : (start old new : Playing) (text : Text) (o : Option Happened) → o ≡ None → ((labels : List Label) → Played start labels old → EventTold start labels o new) → Writing start text old → Written start text new
written_by start old new text o is ended w =
    record { labels = w.labels; ended = subst (λ (x : Option Happened). EventTold start w.labels x new) is (ended w.labels w.played); notes = w.notes }

-- behind all labels comes the line of a bad line, with its note, and the end of the output
pub explained_by : (start now : Playing) (text with_bad noted all : Text) (bad : Option ℕ) (status : Status) → Written start text now → bad ≡ now.bad
    → with_bad ≡ text ++ line_of_bad bad → ((lines : Text) → HasNotes lines with_bad → HasNotes lines noted)
    → all ≡ noted ++ end_text now.desk.manager.state → status ≡ answer_by bad → ExplainsPlay start all status
explained_by start now text with_bad noted all bad status h same is notes is_all answer =
    record {
      output = written (left_of start) h.labels now.desk.manager.state;
      prints = (h.labels, front_of now.desk, h.ended.plays, refl);
      woven = record {
        lines = text_of h.labels ++ line_of_bad bad;
        woven = noted;
        rest = end_text now.desk.manager.state;
        notes = notes (text_of h.labels ++ line_of_bad bad) (notes_bad (text_of h.labels) text with_bad bad is h.notes);
        without =
            ap (λ (x : Text). text_of h.labels ++ (x ++ end_text now.desk.manager.state)) (h.ended.bad ∙ ap line_of_bad (sym same))
            ∙ sym (append_assoc (text_of h.labels) (line_of_bad bad) (end_text now.desk.manager.state));
        all = is_all;
      };
      answer = h.ended.answer ∙ ap answer_by (sym same) ∙ sym answer;
    }

-- the play is one of a front over a manager
pub of_manager : (m : Manager) (d : Desk) (script : List ℕ) (p : Playing) (text : Text) (status : Status) → d ≡ opening_desk m → Begins d script p → ExplainsPlay p text status
    → IsExplanation (settings m) (opening_front m.state) (events_of script) text status
of_manager m d script p text status is begins h =
    subst (λ (x : Desk). IsExplanation (told_of x) (front_of x) (events_of script) text status) (begins.is ∙ is)
    (subst (λ (t : Trace). IsExplanation (told_of p.desk) (front_of p.desk) t text status) begins.left h)

pub machine_explained : {E : Type 0} (m : Manager) (d : Desk) (script : List ℕ) (p : Playing) (r : Result Explained E) → d ≡ opening_desk m → Begins d script p → IfOk r (λ e. ExplainsPlay p e.text.items e.status)
    → IfOk r (λ e. IsExplanation (settings m) (opening_front m.state) (events_of script) e.text.items e.status)
machine_explained m d script p (Ok e) is begins h = of_manager m d script p e.text.items e.status is begins h
machine_explained m d script p (Err error) is begins h = tt
