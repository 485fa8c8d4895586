-- What a turn finds, from what the run, the reader and the comparison say.
use Rattle.std.proofs.Common.{ℕ, ◌+◌, ◌<◌, ◌≤◌, ◌≡◌, true, false, inl, inr, Some, None, Result, Ok, Err, IfOk, List, [], ◌∷◌, ◌++◌, drop, length, refl, sym, ap, ◌∙◌, subst, arith, append-nil, length-append, ◌⊎◌}
use Rattle.pnp_labels.specs.Texts.{Text, label_line}
use Rattle.pnp_labels.specs.declared.event.Event.{Event}
use Rattle.pnp_labels.specs.declared.words.Answer.{Answer}
use Rattle.pnp_labels.specs.declared.words.DriverKind.{DriverKind}
use Rattle.inf_reader.specs.declared.parts.Inf.{Inf}
use Rattle.pnp_model.specs.Events.{happens}
use Rattle.pnp_model.specs.Machine.{IsQuiet}
use Rattle.pnp_model.specs.Records.{State, Settings}
use Rattle.start_sequence.specs.Begins.{settings_of}
use Rattle.script_reader.specs.Answers.{Answers}
use Rattle.script_reader.specs.Reading.{Reading, Moves}
use Rattle.script_reader.specs.Script.{Trace, gives, ends, stops, trace}
use Rattle.script_reader.specs.declared.next.Next.{Next}
use Rattle.pnp_labels.specs.declared.label.Label.{Label}
use Rattle.free_model.specs.Frees.{StepsBy, free_opening}
use Rattle.free_model.specs.Checks.{Place, Runs, Allows, IsOfMachine, IsChecked, beginning, has_feed}
use Rattle.free_model.proofs.OneVerdict.{no_step}
use Rattle.free_run.specs.FreeRuns.{Free, settings}
use Rattle.trace_check.specs.declared.check.Checked.{Checked}
use Rattle.trace_check.specs.declared.step.Found.{Found}
use Rattle.trace_check.specs.declared.turn.Turn.{Turn}
use Rattle.trace_check.specs.Letters.{answer_of}
use Rattle.trace_check.specs.Verdicts.{verdict}
use Rattle.trace_check.specs.Turns.{IfFront, IfStands, NoneStands, HasPrinted, IsTaken, Tells, FindsStep, Finds, GoesOn, HasRoom, IsTurn, place}
use Rattle.trace_check.proofs.Fronts.{is_standing, not_in_front}
use Rattle.trace_check.proofs.Telling.{none_left, no_other}
use Rattle.trace_check.proofs.Verdicts.{tells_all, tells_on, tells_none, none_at_rest}

-- An event --------------------------------------------------------------------------------

pub event_taken : (told : Settings) (old new : Free) (event : Event) (line rest : Text) (size : ℕ) → IsQuiet told old.state → IsOfMachine event
    → HasPrinted (happens old.state event) old new line → IfFront true rest line → size ≡ length line → (number : ℕ) (script : Trace)
    → IsTaken told (Runs old.state (gives number event script)) rest size (Runs new.state script)
event_taken told old new event line rest size quiet own (is, became) front same number script =
    let stands : IfStands (Some size) rest (label_line (happens old.state event).label) = is_standing rest line (label_line (happens old.state event).label) size front is same in
    record {
      line = label_line (happens old.state event).label;
      allows = inr (quiet, (own, refl, ap (λ (f : Free). Runs f.state script) became));
      front = stands.0;
      size = stands.1;
    }

pub event_refused : (told : Settings) (old new : Free) (event : Event) (line rest : Text) (lines : ℕ) → IsQuiet told old.state
    → HasPrinted (happens old.state event) old new line → IfFront false rest line → (number : ℕ) (script : Trace)
    → Tells (Checked.No (lines + 1)) told (Runs old.state (gives number event script)) rest lines
event_refused told old new event line rest lines quiet (is, became) front number script =
    tells_none told old.state (gives number event script) rest lines
    (none_at_rest told old.state (gives number event script) rest quiet
    (λ other more next here (own, same, _). not_in_front rest line (label_line (happens old.state event).label) more front is (here ∙ ap (λ (t : Text). t ++ 10 ∷ more) same)))

pub client_refused : (told : Settings) (s : State) (event : Event) (rest : Text) (lines : ℕ) → IsQuiet told s → (IsOfMachine event → ⊥) → (number : ℕ) (script : Trace)
    → Tells (Checked.No (lines + 1)) told (Runs s (gives number event script)) rest lines
client_refused told s event rest lines quiet not number script =
    tells_none told s (gives number event script) rest lines (none_at_rest told s (gives number event script) rest quiet (λ line more next here allows. not allows.0))

-- A step ----------------------------------------------------------------------------------

pub step_taken : (told : Settings) (answer : Answer) (s new : State) (label : Label) (line rest : Text) (count lines : ℕ) → StepsBy answer told s label new → line ≡ label_line label ++ 10 ∷ []
    → ((text : Text) → line ≡ text ++ 10 ∷ [] → IfStands (Some count) rest text) → FindsStep (Found.Line count) told s new rest lines
step_taken told answer s new label line rest count lines steps is stands = λ script.
    let (front, size) = stands (label_line label) is in
    record { line = label_line label; allows = inl (label, new, (answer, steps), refl, refl); front = front; size = size }

pub step_refused : (told : Settings) (answer : Answer) (s new : State) (label : Label) (line rest : Text) (lines : ℕ) → answer_of rest ≡ Some answer → StepsBy answer told s label new → line ≡ label_line label ++ 10 ∷ []
    → ((text : Text) → line ≡ text ++ 10 ∷ [] → IfStands None rest text) → (has_feed (label_line label) ≡ false) ⊎ NoneStands label rest → FindsStep (Found.Over (Checked.No (lines + 1))) told s new rest lines
step_refused told answer s new label line rest lines reads steps is stands sole = λ script. tells_none told s script rest lines (nothing script)
  where
    nothing : (script : Trace) → (other more : Text) (next : Place) → rest ≡ other ++ 10 ∷ more → Allows told (Runs s script) other next → ⊥
    nothing script other more next here (inl (b, there, free, same, _)) =
        no_other told s answer label new rest reads steps sole (stands (label_line label) is) b there more free (here ∙ ap (λ (t : Text). t ++ 10 ∷ more) same)
    nothing script other more next here (inr (quiet, _)) = no_step told s label new quiet (answer, steps)

pub line_refused : (told : Settings) (s : State) (script : Trace) (rest : Text) (lines : ℕ) → answer_of rest ≡ None → Tells (Checked.No (lines + 1)) told (Runs s script) rest lines
line_refused told s script rest lines none = tells_none told s script rest lines (λ line more next here allows. none_left 0 line more (sym (ap answer_of here) ∙ none))

-- The reader ------------------------------------------------------------------------------

-- what a reader that was finished gives, read on
read_on : (old new : Reading) → old.finished ≡ true → Moves old new [] → trace true old.passed old.rest ≡ trace true new.passed new.rest
read_on old new finished moves = ap (trace true old.passed) moves.whole ∙ moves.same true new.rest (λ shut. (refl, refl))

event_here : (old new : Reading) (event : Event) → old.finished ≡ true → Moves old new (record { line = new.line; event = event } ∷ [])
    → trace true old.passed old.rest ≡ gives new.line event (trace true new.passed new.rest)
event_here old new event finished moves = ap (trace true old.passed) moves.whole ∙ moves.same true new.rest (λ shut. (refl, refl))

pub event_read : (old new : Reading) (event : Event) → old.finished ≡ true → Answers (Next.Event event) old new → trace true old.passed old.rest ≡ gives new.line event (trace true new.passed new.rest)
event_read old new event finished answers = event_here old new event finished answers.0

room_on : (turn : Turn) (run : Free) (old new : Reading) → length new.rest < length old.rest → GoesOn turn run (run.events + 1) → HasRoom turn run old new
room_on (Turn.Line next count) run old new less on =
    let events : next.events ≡ run.events + 1 = ap (λ (f : Free). f.events) on in
    (ap (λ (f : Free). f.infs) on, ap (λ (f : Free). f.budget) on, omega arith)
room_on (Turn.Over checked) run old new less on = tt

pub event_turn : (turn : Turn) (run : Free) (old new : Reading) (event : Event) (rest : Text) (lines : ℕ) → old.finished ≡ true → Answers (Next.Event event) old new
    → ((number : ℕ) (script : Trace) → Finds turn (settings run) (Runs run.state (gives number event script)) rest lines (λ next. Runs next.state script))
    → GoesOn turn run (run.events + 1) → IsTurn turn run old rest lines new
event_turn turn run old new event rest lines finished (moves, less) finds on =
    record {
      finds =
          subst (λ (t : Trace). Finds turn (settings run) (Runs run.state t) rest lines (λ next. place next new)) (sym (event_here old new event finished moves))
          (finds new.line (trace true new.passed new.rest));
      room = room_on turn run old new less on;
      finished = moves.finished;
    }

pub event_turns : {E : Type 0} (r : Result Turn E) (run : Free) (old new : Reading) (event : Event) (rest : Text) (lines : ℕ) → old.finished ≡ true → Answers (Next.Event event) old new
    → IfOk r (λ turn. (number : ℕ) (script : Trace) → Finds turn (settings run) (Runs run.state (gives number event script)) rest lines (λ next. Runs next.state script))
    → IfOk r (λ turn. GoesOn turn run (run.events + 1)) → IfOk r (λ turn. IsTurn turn run old rest lines new)
event_turns (Ok turn) run old new event rest lines finished answers finds on = event_turn turn run old new event rest lines finished answers finds on
event_turns (Err e) run old new event rest lines finished answers finds on = tt

-- a verdict where the reader gives this
over_read : (checked : Checked) (run : Free) (old new : Reading) (script : Trace) (rest : Text) (lines : ℕ) → trace true old.passed old.rest ≡ script → new.finished ≡ old.finished
    → Tells checked (settings run) (Runs run.state script) rest lines → IsTurn (Turn.Over checked) run old rest lines new
over_read checked run old new script rest lines here same tells =
    record {
      finds = subst (λ (t : Trace). Tells checked (settings run) (Runs run.state t) rest lines) (sym here) tells;
      room = tt;
      finished = same;
    }

pub end_turn : (checked : Checked) (run : Free) (old new : Reading) (rest : Text) (lines : ℕ) → old.finished ≡ true → Answers Next.End old new
    → Tells checked (settings run) (Runs run.state ends) rest lines → IsTurn (Turn.Over checked) run old rest lines new
end_turn checked run old new rest lines finished (moves, _, at_end) tells =
    over_read checked run old new ends rest lines (read_on old new finished moves ∙ ap (trace true new.passed) at_end.empty) moves.finished tells

pub bad_turn : (checked : Checked) (run : Free) (old new : Reading) (number : ℕ) (rest : Text) (lines : ℕ) → old.finished ≡ true → Answers (Next.Bad number) old new
    → Tells checked (settings run) (Runs run.state (stops number)) rest lines → IsTurn (Turn.Over checked) run old rest lines new
bad_turn checked run old new number rest lines finished (moves, _, _, is, stuck) tells =
    over_read checked run old new (stops number) rest lines
    (read_on old new finished moves ∙ ap (trace true new.passed) (sym (append-nil new.rest)) ∙ stuck.same true [] new.passed (λ shut. (refl, refl)) ∙ ap stops (sym is))
    moves.finished tells

-- The whole -------------------------------------------------------------------------------

-- what is told behind a line is told before it
pub line_leads : (run next : Free) (old new : Reading) (rest : Text) (lines count : ℕ) (checked : Checked) → IsTurn (Turn.Line next count) run old rest lines new
    → Tells checked (settings next) (place next new) (drop count rest) (lines + 1) → Tells checked (settings run) (place run old) rest lines
line_leads run next old new rest lines count checked turn tells =
    let told : settings next ≡ settings run = ap (λ i. settings_of i next.budget) turn.room.0 ∙ ap (settings_of run.infs) turn.room.1 in
    subst (λ (t : Text). Tells checked (settings run) (place run old) t lines) (sym turn.finds.front)
    (tells_on (settings run) checked (place run old) (place next new) turn.finds.line (drop count rest) lines turn.finds.allows
    (subst (λ (t : Settings). Tells checked t (place next new) (drop count rest) (lines + 1)) told tells))

length_line : (line more : Text) → length (line ++ 10 ∷ more) ≡ length line + 1 + length more
length_line line more = simp length-append (omega arith)

-- and a line is not longer than what is left
pub line_within : (run next : Free) (old new : Reading) (rest : Text) (lines count : ℕ) → IsTurn (Turn.Line next count) run old rest lines new → (0 < count) × (count ≤ length rest)
line_within run next old new rest lines count turn =
    let whole : length rest ≡ length turn.finds.line + 1 + length (drop count rest) = ap length turn.finds.front ∙ length_line turn.finds.line (drop count rest) in
    let size : count ≡ length turn.finds.line + 1 = turn.finds.size in
    (omega arith, omega arith)

-- where the run and the reader begin
pub whole : {E : Type 0} (r : Result Checked E) (run : Free) (reader : Reading) (infs : List Inf) (budget : ℕ) (kinds : List DriverKind) (script text : Text)
    → run ≡ record { infs = infs; budget = budget; events = 0; state = free_opening kinds } → reader.passed ≡ 0 → reader.rest ≡ script
    → IfOk r (λ checked. Tells checked (settings run) (place run reader) text 0)
    → IfOk r (λ checked. IsChecked (settings_of infs budget) (beginning kinds (trace true 0 script)) text (verdict checked))
whole (Err e) run reader infs budget kinds script text is none all tells = tt
whole (Ok checked) run reader infs budget kinds script text is none all tells =
    tells_all (settings_of infs budget) checked (beginning kinds (trace true 0 script)) text
    (subst (λ (r : List ℕ). Tells checked (settings_of infs budget) (beginning kinds (trace true 0 r)) text 0) all
    (subst (λ (n : ℕ). Tells checked (settings_of infs budget) (beginning kinds (trace true n reader.rest)) text 0) none
    (subst (λ (f : Free). Tells checked (settings f) (place f reader) text 0) is tells)))
