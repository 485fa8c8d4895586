-- What a turn finds, from what the run, the reader and the comparison say.
use Rattle.std.proofs.Common.{ℕ, ◌+◌, ◌<◌, ◌≤◌, ◌≡◌, true, false, inl, inr, Some, None, Result, Ok, Err, IfOk, List, [], ◌∷◌, ◌++◌, drop, length, refl, sym, ap, ◌∙◌, subst, arith, append-nil, length-append, ◌⊎◌}
use Rattle.pnp_labels.specs.Texts.{Text, label_line}
use Rattle.pnp_labels.specs.declared.event.Event.{Event}
use Rattle.pnp_labels.specs.declared.words.Answer.{Answer}
use Rattle.pnp_labels.specs.declared.words.DriverKind.{DriverKind}
use Rattle.inf_reader.specs.declared.parts.Inf.{Inf}
use Rattle.pnp_model.specs.Records.{Settings}
use Rattle.start_sequence.specs.Begins.{settings_of}
use Rattle.script_reader.specs.Answers.{Answers}
use Rattle.script_reader.specs.Reading.{Reading, Moves}
use Rattle.script_reader.specs.Script.{Trace, gives, ends, stops, trace}
use Rattle.script_reader.specs.declared.next.Next.{Next}
use Rattle.pnp_labels.specs.declared.label.Label.{Label}
use Rattle.free_model.specs.Frees.{free_opening}
use Rattle.free_model.specs.Checks.{has_feed}
use Rattle.notify_front.specs.Desks.{Desk, front_of, machine_events, opening_desk, told_of}
use Rattle.notify_front.specs.Fronts.{Front, FrontEntry, IsFrontQuiet, front_happens, front_printed}
use Rattle.free_front.specs.FreeFronts.{FrontStepsBy}
use Rattle.free_front.proofs.Nexts.{no_free_step}
use Rattle.trace_check.specs.declared.check.Checked.{Checked}
use Rattle.front_check.specs.declared.step.Found.{Found}
use Rattle.front_check.specs.declared.turn.Turn.{Turn}
use Rattle.trace_check.specs.Letters.{answer_of}
use Rattle.trace_check.specs.Verdicts.{verdict}
use Rattle.trace_check.specs.Turns.{IfFront, IfStands, NoneStands}
use Rattle.front_check.specs.FrontChecks.{Place, Runs, Allows, IsChecked, beginning}
use Rattle.front_check.specs.Turns.{HasPrinted, IsTaken, Tells, FindsStep, Finds, GoesOn, HasRoom, IsTurn, place}
use Rattle.front_check.proofs.Fronts.{is_standing, not_in_front}
use Rattle.front_check.proofs.Telling.{none_left, no_other}
use Rattle.front_check.proofs.Verdicts.{tells_all, tells_on, tells_none, none_at_rest}

-- An event --------------------------------------------------------------------------------

-- what an event prints
abbrev printed : Desk → Event → Text
printed run event = label_line (front_printed (front_happens (front_of run) event).entry)

pub event_taken : (told : Settings) (old new : Desk) (event : Event) (line rest : Text) (size : ℕ) → IsFrontQuiet told (front_of old)
    → HasPrinted event old new line → IfFront true rest line → size ≡ length line → (number : ℕ) (script : Trace)
    → IsTaken told (Runs (front_of old) (gives number event script)) rest size (Runs (front_of new) script)
event_taken told old new event line rest size quiet did front same number script =
    let stands : IfStands (Some size) rest (printed old event) = is_standing rest line (printed old event) size front did.says same in
    record {
      line = printed old event;
      allows = inr (quiet, (refl, ap (λ (f : Front). Runs f script) did.became));
      front = stands.0;
      size = stands.1;
    }

pub event_refused : (told : Settings) (old new : Desk) (event : Event) (line rest : Text) (lines : ℕ) → IsFrontQuiet told (front_of old)
    → HasPrinted event old new line → IfFront false rest line → (number : ℕ) (script : Trace)
    → Tells (Checked.No (lines + 1)) told (Runs (front_of old) (gives number event script)) rest lines
event_refused told old new event line rest lines quiet did front number script =
    tells_none told (front_of old) (gives number event script) rest lines
    (none_at_rest told (front_of old) (gives number event script) rest quiet
    (λ other more next here (same, _). not_in_front rest line (printed old event) more front did.says (here ∙ ap (λ (t : Text). t ++ 10 ∷ more) same)))

-- an event counts where it is one of the machine
counts : (event : Event) (n : ℕ) → machine_events event n ≤ n + 1
counts (Event.Watch client path agrees) n = omega arith
counts (Event.Unwatch client path) n = omega arith
counts event n = omega arith

pub event_goes_on : (old new : Desk) (event : Event) (line : Text) (size : ℕ) → HasPrinted event old new line → GoesOn (Turn.Line new size) old (old.manager.events + 1)
event_goes_on old new event line size did = (did.told, subst (λ n. n ≤ old.manager.events + 1) (sym did.count) (counts event old.manager.events))

-- A step ----------------------------------------------------------------------------------

pub step_taken : (told : Settings) (answer : Answer) (f new : Front) (entry : FrontEntry) (label : Label) (line rest : Text) (count lines : ℕ) → label ≡ front_printed entry → FrontStepsBy answer told f entry new → line ≡ label_line label ++ 10 ∷ []
    → ((text : Text) → line ≡ text ++ 10 ∷ [] → IfStands (Some count) rest text) → FindsStep (Found.Line count) told f new rest lines
step_taken told answer f new entry label line rest count lines says steps is stands = λ script.
    let (front, size) = stands (label_line label) is in
    record { line = label_line label; allows = inl (entry, new, (answer, steps), ap label_line says, refl); front = front; size = size }

pub step_refused : (told : Settings) (answer : Answer) (f new : Front) (entry : FrontEntry) (label : Label) (line rest : Text) (lines : ℕ) → answer_of rest ≡ Some answer → label ≡ front_printed entry → FrontStepsBy answer told f entry new → line ≡ label_line label ++ 10 ∷ []
    → ((text : Text) → line ≡ text ++ 10 ∷ [] → IfStands None rest text) → (has_feed (label_line label) ≡ false) ⊎ NoneStands label rest → FindsStep (Found.Over (Checked.No (lines + 1))) told f new rest lines
step_refused told answer f new entry label line rest lines reads says steps is stands sole = λ script. tells_none told f script rest lines (nothing script)
  where
    own : line ≡ label_line (front_printed entry) ++ 10 ∷ []
    own = is ∙ ap (λ (l : Label). label_line l ++ 10 ∷ []) says

    alone : (has_feed (label_line (front_printed entry)) ≡ false) ⊎ NoneStands (front_printed entry) rest
    alone = subst (λ (l : Label). (has_feed (label_line l) ≡ false) ⊎ NoneStands l rest) says sole

    nothing : (script : Trace) → (other more : Text) (next : Place) → rest ≡ other ++ 10 ∷ more → Allows told (Runs f script) other next → ⊥
    nothing script other more next here (inl (b, there, free, same, _)) =
        no_other told f answer entry new rest reads steps alone (stands (label_line (front_printed entry)) own) b there more free (here ∙ ap (λ (t : Text). t ++ 10 ∷ more) same)
    nothing script other more next here (inr (quiet, _)) = no_free_step told f entry new quiet (answer, steps)

-- a run that goes on as another would
room_same : (turn : Turn) (old new : Desk) (reader later : Reading) → told_of new ≡ told_of old → new.manager.events ≡ old.manager.events → HasRoom turn new reader later → HasRoom turn old reader later
room_same (Turn.Line run count) old new reader later told events room = (room.0 ∙ told, let few = room.1 in omega arith)
room_same (Turn.Over checked) old new reader later told events room = tt

pub turn_same : (turn : Turn) (old new : Desk) (reader : Reading) (rest : Text) (lines : ℕ) (later : Reading) → told_of new ≡ told_of old → new.manager.events ≡ old.manager.events → front_of new ≡ front_of old
    → IsTurn turn new reader rest lines later → IsTurn turn old reader rest lines later
turn_same turn old new reader rest lines later told events front h =
    record {
      finds =
          subst (λ (t : Settings). Finds turn t (place old reader) rest lines (λ next. place next later)) told
          (subst (λ (f : Front). Finds turn (told_of new) (Runs f (trace true reader.passed reader.rest)) rest lines (λ next. place next later)) front h.finds);
      room = room_same turn old new reader later told events h.room;
      finished = h.finished;
    }

pub turns_same : {E : Type 0} (r : Result Turn E) (old new : Desk) (reader : Reading) (rest : Text) (lines : ℕ) (later : Reading) → told_of new ≡ told_of old → new.manager.events ≡ old.manager.events → front_of new ≡ front_of old
    → IfOk r (λ turn. IsTurn turn new reader rest lines later) → IfOk r (λ turn. IsTurn turn old reader rest lines later)
turns_same (Ok turn) old new reader rest lines later told events front h = turn_same turn old new reader rest lines later told events front h
turns_same (Err e) old new reader rest lines later told events front h = tt

pub line_turn : (old new : Desk) (reader : Reading) (rest : Text) (lines count : ℕ) → told_of new ≡ told_of old → new.manager.events ≡ old.manager.events
    → FindsStep (Found.Line count) (told_of old) (front_of old) (front_of new) rest lines → IsTurn (Turn.Line new count) old reader rest lines reader
line_turn old new reader rest lines count told events finds = record { finds = finds (trace true reader.passed reader.rest); room = (told, omega (arith, events)); finished = refl }

pub line_refused : (told : Settings) (f : Front) (script : Trace) (rest : Text) (lines : ℕ) → answer_of rest ≡ None → Tells (Checked.No (lines + 1)) told (Runs f script) rest lines
line_refused told f script rest lines none = tells_none told f script rest lines (λ line more next here allows. none_left 0 line more (sym (ap answer_of here) ∙ none))

-- The reader ------------------------------------------------------------------------------

-- what a reader that was finished gives, read on
read_on : (old new : Reading) → old.finished ≡ true → Moves old new [] → trace true old.passed old.rest ≡ trace true new.passed new.rest
read_on old new finished moves = ap (trace true old.passed) moves.whole ∙ moves.same true new.rest (λ shut. (refl, refl))

event_here : (old new : Reading) (event : Event) → old.finished ≡ true → Moves old new (record { line = new.line; event = event } ∷ [])
    → trace true old.passed old.rest ≡ gives new.line event (trace true new.passed new.rest)
event_here old new event finished moves = ap (trace true old.passed) moves.whole ∙ moves.same true new.rest (λ shut. (refl, refl))

pub event_read : (old new : Reading) (event : Event) → old.finished ≡ true → Answers (Next.Event event) old new → trace true old.passed old.rest ≡ gives new.line event (trace true new.passed new.rest)
event_read old new event finished answers = event_here old new event finished answers.0

room_on : (turn : Turn) (run : Desk) (old new : Reading) → length new.rest < length old.rest → GoesOn turn run (run.manager.events + 1) → HasRoom turn run old new
room_on (Turn.Line next count) run old new less on = (on.0, let few = on.1 in omega arith)
room_on (Turn.Over checked) run old new less on = tt

pub event_turn : (turn : Turn) (run : Desk) (old new : Reading) (event : Event) (rest : Text) (lines : ℕ) → old.finished ≡ true → Answers (Next.Event event) old new
    → ((number : ℕ) (script : Trace) → Finds turn (told_of run) (Runs (front_of run) (gives number event script)) rest lines (λ next. Runs (front_of next) script))
    → GoesOn turn run (run.manager.events + 1) → IsTurn turn run old rest lines new
event_turn turn run old new event rest lines finished (moves, less) finds on =
    record {
      finds =
          subst (λ (t : Trace). Finds turn (told_of run) (Runs (front_of run) t) rest lines (λ next. place next new)) (sym (event_here old new event finished moves))
          (finds new.line (trace true new.passed new.rest));
      room = room_on turn run old new less on;
      finished = moves.finished;
    }

pub event_turns : {E : Type 0} (r : Result Turn E) (run : Desk) (old new : Reading) (event : Event) (rest : Text) (lines : ℕ) → old.finished ≡ true → Answers (Next.Event event) old new
    → IfOk r (λ turn. (number : ℕ) (script : Trace) → Finds turn (told_of run) (Runs (front_of run) (gives number event script)) rest lines (λ next. Runs (front_of next) script))
    → IfOk r (λ turn. GoesOn turn run (run.manager.events + 1)) → IfOk r (λ turn. IsTurn turn run old rest lines new)
event_turns (Ok turn) run old new event rest lines finished answers finds on = event_turn turn run old new event rest lines finished answers finds on
event_turns (Err e) run old new event rest lines finished answers finds on = tt

-- a verdict where the reader gives this
over_read : (checked : Checked) (run : Desk) (old new : Reading) (script : Trace) (rest : Text) (lines : ℕ) → trace true old.passed old.rest ≡ script → new.finished ≡ old.finished
    → Tells checked (told_of run) (Runs (front_of run) script) rest lines → IsTurn (Turn.Over checked) run old rest lines new
over_read checked run old new script rest lines here same tells =
    record {
      finds = subst (λ (t : Trace). Tells checked (told_of run) (Runs (front_of run) t) rest lines) (sym here) tells;
      room = tt;
      finished = same;
    }

pub end_read : (old new : Reading) → old.finished ≡ true → Answers Next.End old new → trace true old.passed old.rest ≡ ends
end_read old new finished (moves, _, at_end) = read_on old new finished moves ∙ ap (trace true new.passed) at_end.empty

pub bad_read : (old new : Reading) (number : ℕ) → old.finished ≡ true → Answers (Next.Bad number) old new → trace true old.passed old.rest ≡ stops number
bad_read old new number finished (moves, _, _, is, stuck) =
    read_on old new finished moves ∙ ap (trace true new.passed) (sym (append-nil new.rest)) ∙ stuck.same true [] new.passed (λ shut. (refl, refl)) ∙ ap stops (sym is)

pub end_turn : (checked : Checked) (run : Desk) (old new : Reading) (rest : Text) (lines : ℕ) → old.finished ≡ true → Answers Next.End old new
    → Tells checked (told_of run) (Runs (front_of run) ends) rest lines → IsTurn (Turn.Over checked) run old rest lines new
end_turn checked run old new rest lines finished answers tells = over_read checked run old new ends rest lines (end_read old new finished answers) answers.0.finished tells

pub bad_turn : (checked : Checked) (run : Desk) (old new : Reading) (number : ℕ) (rest : Text) (lines : ℕ) → old.finished ≡ true → Answers (Next.Bad number) old new
    → Tells checked (told_of run) (Runs (front_of run) (stops number)) rest lines → IsTurn (Turn.Over checked) run old rest lines new
bad_turn checked run old new number rest lines finished answers tells = over_read checked run old new (stops number) rest lines (bad_read old new number finished answers) answers.0.finished tells

-- The whole -------------------------------------------------------------------------------

-- what is told behind a line is told before it
pub line_leads : (run next : Desk) (old new : Reading) (rest : Text) (lines count : ℕ) (checked : Checked) → IsTurn (Turn.Line next count) run old rest lines new
    → Tells checked (told_of next) (place next new) (drop count rest) (lines + 1) → Tells checked (told_of run) (place run old) rest lines
line_leads run next old new rest lines count checked turn tells =
    subst (λ (t : Text). Tells checked (told_of run) (place run old) t lines) (sym turn.finds.front)
    (tells_on (told_of run) checked (place run old) (place next new) turn.finds.line (drop count rest) lines turn.finds.allows
    (subst (λ (t : Settings). Tells checked t (place next new) (drop count rest) (lines + 1)) turn.room.0 tells))

length_line : (line more : Text) → length (line ++ 10 ∷ more) ≡ length line + 1 + length more
length_line line more = simp length-append (omega arith)

-- and a line is not longer than what is left
pub line_within : (run next : Desk) (old new : Reading) (rest : Text) (lines count : ℕ) → IsTurn (Turn.Line next count) run old rest lines new → (0 < count) × (count ≤ length rest)
line_within run next old new rest lines count turn =
    let whole : length rest ≡ length turn.finds.line + 1 + length (drop count rest) = ap length turn.finds.front ∙ length_line turn.finds.line (drop count rest) in
    let size : count ≡ length turn.finds.line + 1 = turn.finds.size in
    (omega arith, omega arith)

-- where the run and the reader begin
pub whole : {E : Type 0} (r : Result Checked E) (run : Desk) (reader : Reading) (infs : List Inf) (budget : ℕ) (kinds : List DriverKind) (script text : Text)
    → run ≡ opening_desk (record { infs = infs; budget = budget; events = 0; state = free_opening kinds }) → reader.passed ≡ 0 → reader.rest ≡ script
    → IfOk r (λ checked. Tells checked (told_of run) (place run reader) text 0)
    → IfOk r (λ checked. IsChecked (settings_of infs budget) (beginning kinds (trace true 0 script)) text (verdict checked))
whole (Err e) run reader infs budget kinds script text is none all tells = tt
whole (Ok checked) run reader infs budget kinds script text is none all tells =
    tells_all (settings_of infs budget) checked (beginning kinds (trace true 0 script)) text
    (subst (λ (r : List ℕ). Tells checked (settings_of infs budget) (beginning kinds (trace true 0 r)) text 0) all
    (subst (λ (n : ℕ). Tells checked (settings_of infs budget) (beginning kinds (trace true n reader.rest)) text 0) none
    (subst (λ (d : Desk). Tells checked (told_of d) (place d reader) text 0) is tells)))
