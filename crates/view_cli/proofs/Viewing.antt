-- The page for a play, and for a script.
use Rattle.std.proofs.Common.{◌≡◌, ℕ, ◌<◌, Bool, true, false, List, [], ◌∷◌, ◌++◌, Option, Some, None, IfOk, Result, Ok, Err, refl, sym, ◌∙◌, ap, subst, append_assoc, codes, drop, take}
use Rattle.std.proofs.lemmas.List.{take-append-drop}
use Rattle.std.specs.Fmt.{decimal}
use Rattle.pnp_labels.specs.Texts.{Text}
use Rattle.pnp_labels.specs.declared.label.Label.{Label}
use Rattle.pnp_model.specs.Records.{Settings}
use Rattle.pnp_machine.specs.Managers.{Manager, settings}
use Rattle.notify_front.specs.Fronts.{Front, opening_front}
use Rattle.notify_front.specs.Desks.{Desk, front_of, told_of, opening_desk}
use Rattle.script_reader.specs.Script.{Trace}
use Rattle.pnp_cli.specs.Contents.{events_of}
use Rattle.pnp_cli.specs.Outputs.{end_text}
use Rattle.pnp_cli.specs.Pieces.{answer_by, line_of_bad}
use Rattle.pnp_cli.specs.declared.status.Status.{Status}
use Rattle.script_play.specs.Playing.{Playing, Played, PlaysOn, Begins, Stepped, StepTold, EventTold, left_of}
use Rattle.script_play.specs.declared.play.Happened.{Happened}
use Rattle.script_play.proofs.Plays.{fewer_left}
use Rattle.notify_front.proofs.FrontLeft.{front_steps_left}
use Rattle.view_page.specs.Pages.{IsPage, Mark}
use Rattle.view_page.specs.declared.words.Part.{Part}
use Rattle.view_page.specs.declared.words.Tag.{Tag}
use Rattle.view_trace.specs.Rows.{row_of, rows}
use Rattle.view_trace.proofs.Taken.{rows_more}
use Rattle.view_states.specs.States.{Telling, Tells}
use Rattle.view_cli.specs.Viewed.{AreEnds, BadMarks, Drawing, Drawn, EndsBy, Finished, IsEnd, IsOfNow, IsReached, IsViewing, StateMarks, TellsNext, TellsStates, ViewsPlay, bad_marks, second_marks, state_marks}
use Rattle.view_cli.specs.declared.viewed.Viewed.{Viewed}

-- the rows of one label more
grown : (labels : List Label) (label : Label) (old new : List Mark) → new ≡ old ++ row_of label → old ≡ rows labels → new ≡ rows (labels ++ label ∷ [])
grown labels label old new more is = more ∙ ap (λ (x : List Mark). x ++ row_of label) is ∙ sym (rows_more labels label)

-- The states ------------------------------------------------------------------------------

reached : (start now : Playing) (labels : List Label) → Played start labels now → told_of now.desk ≡ told_of start.desk → IsReached (told_of start.desk) (front_of start.desk) (left_of start) labels (front_of now.desk)
reached start now labels played same = record {
  left = left_of now;
  leads = λ more last h. played.leads more last (subst (λ (s : Settings). PlaysOn s (front_of now.desk) (left_of now) more last) (sym same) h);
}

-- of one label more
told_by : (start now : Playing) (labels : List Label) (label : Label) (states next : Telling) (text : Option Text) → IsOfNow text now
    → ((texts : List (Option Text)) → Tells states.written texts states.last → Tells next.written (texts ++ text ∷ []) next.last)
    → Played start (labels ++ label ∷ []) now → told_of now.desk ≡ told_of start.desk
    → TellsStates (told_of start.desk) (front_of start.desk) (left_of start) labels states → TellsStates (told_of start.desk) (front_of start.desk) (left_of start) (labels ++ label ∷ []) next
told_by start now labels label states next None is tells played same h = record {
  texts = h.texts ++ None ∷ [];
  ends = AreEnds.passed labels h.texts label h.ends;
  tells = tells h.texts h.tells;
}
told_by start now labels label states next (Some text) is tells played same h = record {
  texts = h.texts ++ Some text ∷ [];
  ends = subst (λ (x : Text). AreEnds (told_of start.desk) (front_of start.desk) (left_of start) (labels ++ label ∷ []) (h.texts ++ Some x ∷ [])) (sym is)
      (AreEnds.told labels h.texts label (front_of now.desk) h.ends (reached start now (labels ++ label ∷ []) played same));
  tells = tells h.texts h.tells;
}

-- nothing was drawn yet
pub drawing_none : (p : Playing) (marks : List Mark) (states : Telling) → marks ≡ [] → Tells states.written [] states.last → Played p [] p → Drawing p marks states p
drawing_none p marks states none tells played = record { labels = []; played = played; settings = refl; lines = none; told = record { texts = []; ends = AreEnds.none; tells = tells } }

-- Label after label -------------------------------------------------------------------------

-- a label that was told is drawn
label_drawn : (start old new : Playing) (marks marks' : List Mark) (states states' : Telling) (label : Label) (w : Drawing start marks states old) → Played start (w.labels ++ label ∷ []) new
    → told_of new.desk ≡ told_of old.desk → marks' ≡ marks ++ row_of label → TellsNext states new states' → Drawing start marks' states' new
label_drawn start old new marks marks' states states' label w played same more next =
    record {
      labels = w.labels ++ label ∷ [];
      played = played;
      settings = same ∙ w.settings;
      lines = grown w.labels label marks marks' more w.lines;
      told = told_by start new w.labels label states states' next.text next.is next.tells played (same ∙ w.settings) w.told;
    }

-- a step with a label
pub drawing_step : (start old new : Playing) (marks marks' : List Mark) (states states' : Telling) (o : Option Label) (label : Label) → o ≡ Some label → ((labels : List Label) → Played start labels old → StepTold start labels o new)
    → told_of new.desk ≡ told_of old.desk → marks' ≡ marks ++ row_of label → TellsNext states new states' → Drawing start marks states old → Drawing start marks' states' new
drawing_step start old new marks marks' states states' o label is played same more next w =
    label_drawn start old new marks marks' states states' label w (subst (λ (x : Option Label). StepTold start w.labels x new) is (played w.labels w.played)) same more next

-- one without
pub drawing_still : (start old new : Playing) (marks : List Mark) (states : Telling) (o : Option Label) → o ≡ None → ((labels : List Label) → Played start labels old → StepTold start labels o new)
    → told_of new.desk ≡ told_of old.desk → Drawing start marks states old → Drawing start marks states new
drawing_still start old new marks states o is played same w =
    record {
      labels = w.labels;
      played = subst (λ (x : Option Label). StepTold start w.labels x new) is (played w.labels w.played);
      settings = same ∙ w.settings;
      lines = w.lines;
      told = w.told;
    }

pub stepped_still : (old new : Playing) (o : Option Label) → o ≡ None → Stepped o old new → Stepped None old new
stepped_still old new o is h = subst (λ (x : Option Label). Stepped x old new) is h

pub fewer_steps : (old new : Playing) (o : Option Label) (label : Label) → o ≡ Some label → Stepped o old new
    → front_steps_left (told_of new.desk) (front_of new.desk) < front_steps_left (told_of old.desk) (front_of old.desk)
fewer_steps old new o label is h = fewer_left label old new (subst (λ (x : Option Label). Stepped x old new) is h)

pub reading_same : (old new : Playing) (o : Option Label) (label : Label) → o ≡ Some label → Stepped o old new → new.reading ≡ old.reading
reading_same old new o label is h = (subst (λ (x : Option Label). Stepped x old new) is h).reading

-- an event
pub drawing_event : (start old new : Playing) (marks marks' : List Mark) (states states' : Telling) (o : Option Happened) (happened : Happened) → o ≡ Some happened
    → ((labels : List Label) → Played start labels old → EventTold start labels o new) → told_of new.desk ≡ told_of old.desk → marks' ≡ marks ++ row_of happened.label → TellsNext states new states'
    → Drawing start marks states old → Drawing start marks' states' new
drawing_event start old new marks marks' states states' o happened is played same more next w =
    label_drawn start old new marks marks' states states' happened.label w (subst (λ (x : Option Happened). EventTold start w.labels x new) is (played w.labels w.played)) same more next

-- the end
pub drawn_by : (start old new : Playing) (marks : List Mark) (states : Telling) (o : Option Happened) → o ≡ None → ((labels : List Label) → Played start labels old → EventTold start labels o new)
    → Drawing start marks states old → Drawn start marks states new
drawn_by start old new marks states o is ended w =
    record { labels = w.labels; ended = subst (λ (x : Option Happened). EventTold start w.labels x new) is (ended w.labels w.played); lines = w.lines; told = w.told }

-- Behind the rows ---------------------------------------------------------------------------

-- the bad line, as the output has it
bad_line : (bad : Option ℕ) → BadMarks (line_of_bad bad) (bad_marks bad)
bad_line None = BadMarks.none
bad_line (Some number) = BadMarks.line (codes "script error line " ++ decimal number)

-- the end, where it is cut
pub ended_by : (text first second : Text) (at : ℕ) (old mid new : List Mark) → first ≡ take at text → second ≡ drop at text → mid ≡ old ++ (Part.Words Tag.Pre, first) ∷ [] → new ≡ mid ++ second_marks second → EndsBy text old new
ended_by text first second at old mid new front back begins ends = record {
  marks = (Part.Words Tag.Pre, first) ∷ second_marks second;
  is = record {
    first = first;
    second = second;
    all = sym (ap (λ (t : Text). t ++ second) front ∙ ap (λ (t : Text). take at text ++ t) back ∙ take-append-drop at text);
    marked = refl;
  };
  added = ends ∙ ap (λ (m : List Mark). m ++ second_marks second) begins ∙ append_assoc old ((Part.Words Tag.Pre, first) ∷ []) (second_marks second);
}

-- all that stands behind the rows
pub finished_by : (steps : Bool) (start now : Playing) (lines rowed badly rested ended told marks : List Mark) (states here : Telling) (bad : Option ℕ) (ending : Text) → Drawn start lines states now → here ≡ states → bad ≡ now.bad
    → ending ≡ end_text (front_of now.desk).state → rowed ≡ lines → badly ≡ rowed ++ bad_marks bad → rested ≡ badly → EndsBy ending rested ended → told ≡ ended ++ state_marks steps here → marks ≡ told → Finished steps start marks now
finished_by steps start now lines rowed badly rested ended told marks states here bad ending drawn same number text is_rowed is_bad is_rested end is_told is = record {
  lines = lines;
  states = states;
  end = end.marks;
  drawn = drawn;
  is_end = subst (λ (t : Text). IsEnd t end.marks) text end.is;
  all =
      is ∙ is_told ∙ ap (λ (h : Telling). ended ++ state_marks steps h) same ∙ ap (λ (m : List Mark). m ++ state_marks steps states) (end.added ∙ ap (λ (m : List Mark). m ++ end.marks)
      (is_rested ∙ is_bad ∙ ap (λ (b : Option ℕ). rowed ++ bad_marks b) number ∙ ap (λ (m : List Mark). m ++ bad_marks now.bad) is_rowed));
}

states_marked : (steps : Bool) (s : Settings) (f : Front) (t : Trace) (labels : List Label) (states : Telling) → TellsStates s f t labels states → StateMarks steps s f t labels (state_marks steps states)
states_marked false s f t labels states h = refl
states_marked true s f t labels states h = (states, h, refl)

-- a page on which all is drawn is the page of the play
pub viewed_by : (steps : Bool) (start now : Playing) (marks : List Mark) (text : Text) (status : Status) → Finished steps start marks now → IsPage marks text → status ≡ answer_by now.bad → ViewsPlay steps start text status
viewed_by steps start now marks text status f page answer =
    record {
      view = record {
        labels = f.drawn.labels;
        last = front_of now.desk;
        plays = f.drawn.ended.plays;
        bad = bad_marks now.bad;
        end = f.end;
        states = state_marks steps f.states;
        is_bad = subst (λ (x : Text). BadMarks x (bad_marks now.bad)) (sym f.drawn.ended.bad) (bad_line now.bad);
        is_end = f.is_end;
        is_told = states_marked steps (told_of start.desk) (front_of start.desk) (left_of start) f.drawn.labels f.states f.drawn.told;
        page = subst (λ (m : List Mark). IsPage m text) (f.all ∙ ap (λ (l : List Mark). l ++ bad_marks now.bad ++ f.end ++ state_marks steps f.states) f.drawn.lines) page;
      };
      answer = f.drawn.ended.answer ∙ sym answer;
    }

pub play_viewed : {E : Type 0} (steps : Bool) (start now : Playing) (marks : List Mark) (status : Status) (r : Result Viewed E) → Finished steps start marks now → status ≡ answer_by now.bad
    → IfOk r (λ v. IsPage marks v.text.items) → IfOk r (λ v. v.status ≡ status) → IfOk r (λ v. ViewsPlay steps start v.text.items v.status)
play_viewed steps start now marks status (Ok v) f answer page same = viewed_by steps start now marks v.text.items v.status f page (same ∙ answer)
play_viewed steps start now marks status (Err error) f answer page same = tt

-- the play is one of a front over a manager
pub of_manager : (steps : Bool) (m : Manager) (d : Desk) (script : List ℕ) (p : Playing) (text : Text) (status : Status) → d ≡ opening_desk m → Begins d script p → ViewsPlay steps p text status
    → IsViewing steps (settings m) (opening_front m.state) (events_of script) text status
of_manager steps m d script p text status is begins h =
    subst (λ (x : Desk). IsViewing steps (told_of x) (front_of x) (events_of script) text status) (begins.is ∙ is)
    (subst (λ (t : Trace). IsViewing steps (told_of p.desk) (front_of p.desk) t text status) begins.left h)

pub machine_viewed : {E : Type 0} (steps : Bool) (m : Manager) (d : Desk) (script : List ℕ) (p : Playing) (r : Result Viewed E) → d ≡ opening_desk m → Begins d script p → IfOk r (λ e. ViewsPlay steps p e.text.items e.status)
    → IfOk r (λ e. IsViewing steps (settings m) (opening_front m.state) (events_of script) e.text.items e.status)
machine_viewed steps m d script p (Ok e) is begins h = of_manager steps m d script p e.text.items e.status is begins h
machine_viewed steps m d script p (Err error) is begins h = tt
