-- What may come next: the first line of what is due, an event, a bad line.
use Rattle.std.proofs.Common.{ℕ, ◌+◌, ◌-◌, ◌≤◌, ◌≡◌, ◌^◌, Bool, true, false, inl, inr, Option, Some, None, Result, Ok, Err, IfOk, [], ◌∷◌, ◌++◌, drop, take, length, refl, sym, ap, ◌∙◌, subst, arith, if◌then◌else◌, length-append, length-drop, Vec, Global, rules}
use Rattle.std.specs.Prelude.{◌==◌, ◌||◌, nat_eq}
use Rattle.std.specs.Option.{option_map}
use Rattle.std.specs.Cmp.Lexicographic.{pointwise}
use Rattle.std.proofs.lemmas.Bool.{eqb-true}
use Rattle.std.proofs.lemmas.Bool.Decides.{Decides-eqb}
use Rattle.std.proofs.lemmas.Slice.Eq.{starts_is}
use Rattle.std.proofs.Math.Seq.{drop-append-add}
use Rattle.std.proofs.lemmas.List.{drop-drop}
use Rattle.device_ids.specs.Cuts.{cut_once}
use Rattle.pnp_labels.specs.Texts.{Text, label_line}
use Rattle.pnp_labels.specs.declared.event.Event.{Event}
use Rattle.pnp_labels.specs.declared.words.Answer.{Answer}
use Rattle.pnp_model.specs.Records.{Settings}
use Rattle.script_reader.specs.Answers.{Answers}
use Rattle.script_reader.specs.Reading.{Reading, Moves}
use Rattle.script_reader.specs.Script.{Trace, gives, ends, stops, trace}
use Rattle.script_reader.specs.declared.next.Next.{Next}
use Rattle.free_model.specs.Checks.{has_feed, end_bytes, bad_line}
use Rattle.pnp_machine.specs.Machines.{HasFewIds}
use Rattle.notify_front.specs.Desks.{Desk, front_of, machine_events, told_of}
use Rattle.notify_front.specs.Fronts.{Front, IsFrontQuiet, front_happens, front_printed}
use Rattle.free_front.proofs.Nexts.{no_free_step}
use Rattle.front_check.specs.FrontChecks.{Place, Runs, Ends, AllowsAtRest, AllowsFirst}
use Rattle.front_check.specs.Turns.{HasPrinted}
use Rattle.trace_check.proofs.FewIds.{few_ids}
use Rattle.trace_check.specs.Turns.{IfFront}
use Rattle.front_hint.specs.declared.spot.Spot.{Spot}
use Rattle.front_hint.specs.declared.spot.Move.{Move}
use Rattle.front_hint.specs.Spots.{place, AllowsNone, HasStepped, IsMove, IsFirst, IsEventMove}

-- The first line --------------------------------------------------------------------------

pub front_by : (b : Bool) (rest line : Text) → b ≡ pointwise nat_eq line (take (length line) rest) → IfFront b rest line
front_by true rest line e = (starts_is Decides-eqb rest line true e).0 refl
front_by false rest line e = λ more is. let bad : false ≡ true = (starts_is Decides-eqb rest line false e).1 more is in absurd (cc)

abbrev CutAs : Text → Option (Text × Text) → Type 0
CutAs due None = has_feed due ≡ false
CutAs due (Some x) = (due ≡ x.0 ++ 10 ∷ x.1) × (has_feed x.0 ≡ false)

cut_line : (due : Text) → CutAs due (cut_once 10 due)
cut_line [] = refl
cut_line (b ∷ due) = by_test (b == 10) refl (cut_once 10 due) (cut_line due)
  where
    by_test : (t : Bool) → (b == 10) ≡ t → (o : Option (Text × Text)) → CutAs due o → CutAs (b ∷ due) (if t then Some ([], due) else option_map (λ x. (b ∷ x.0, x.1)) o)
    by_test true e o h = (ap (λ (x : ℕ). x ∷ due) (eqb-true b 10 e), refl)
    by_test false e None h = ap (λ (t : Bool). t || has_feed due) e ∙ h
    by_test false e (Some x) h = (ap (λ (t : Text). b ∷ t) h.0, ap (λ (t : Bool). t || has_feed x.0) e ∙ h.1)

or_true : (b : Bool) → (b || true) ≡ true
or_true true = refl
or_true false = refl

has_line : (line more : Text) → has_feed (line ++ 10 ∷ more) ≡ true
has_line [] more = refl
has_line (b ∷ line) more = ap (λ (t : Bool). (b == 10) || t) (has_line line more) ∙ or_true (b == 10)

-- where there is no LF no line is the first
pub no_first : (due text : Text) → due ≡ text → None ≡ cut_once 10 text → (line : Text) (next : Place) → AllowsFirst due line next → ⊥
no_first due text same none line next (more, is, _, _) =
    let clear : has_feed text ≡ false = subst (CutAs text) (sym none) (cut_line text) in
    let bad : false ≡ true = sym clear ∙ ap has_feed (sym same ∙ is) ∙ has_line line more in absurd (cc)

drop_on : (n m : ℕ) (xs : Text) → drop (n + m) xs ≡ drop m (drop n xs)
drop_on n m xs = sym (drop-drop m n xs)

behind_line : (line more : Text) → drop (length line + 1) (line ++ 10 ∷ more) ≡ more
behind_line line more = drop-append-add line (10 ∷ more) 1

length_line : (line more : Text) → length (line ++ 10 ∷ more) ≡ length line + 1 + length more
length_line line more = simp length-append (omega arith)

-- the first line, and where it leads
pub is_first : (due : Vec ℕ Global) (at : ℕ) (text front more : Text) (line : Vec ℕ Global) (next : ℕ) → at ≤ length due.items → drop at due.items ≡ text
    → Some (front, more) ≡ cut_once 10 text → line.items ≡ front ++ 10 ∷ [] → next ≡ at + length line.items → IsFirst due.items at (Move.Line line (Spot.Ends due next))
is_first due at text front more line next within same cut is size =
    let found : CutAs text (Some (front, more)) = subst (CutAs text) (sym cut) (cut_line text) in
    let whole : drop at due.items ≡ front ++ 10 ∷ more = same ∙ found.0 in
    let long : length line.items ≡ length front + 1 = ap length is ∙ length-append front (10 ∷ []) in
    let place_is : next ≡ at + (length front + 1) = size ∙ ap (λ (n : ℕ). at + n) long in
    let left : drop next due.items ≡ more = ap (λ (n : ℕ). drop n due.items) place_is ∙ drop_on at (length front + 1) due.items ∙ ap (drop (length front + 1)) whole ∙ behind_line front more in
    let count : length due.items - at ≡ length front + 1 + length more = sym (length-drop at due.items) ∙ ap length whole ∙ length_line front more in
    (front, is, (more, whole, found.1, ap Ends left), omega arith, λ told. tt)

-- Moves -----------------------------------------------------------------------------------

pub first_moves : (answer : Answer) (told : Settings) (due : Text) (at : ℕ) (next : Move) → IsFirst due at next → IsMove answer told (Ends (drop at due)) next
first_moves answer told due at (Move.Line line spot) (text, is, allows, ready, of) = record { text = text; is = is; allows = allows; ready = ready; of = of told }
first_moves answer told due at Move.Nothing none = λ line next allows. none line next allows

-- where nothing is allowed at rest nothing is
none_quiet : (told : Settings) (f : Front) (script : Trace) → IsFrontQuiet told f → ((line : Text) (next : Place) → AllowsAtRest f script line next → ⊥) → AllowsNone told (Runs f script)
none_quiet told f script quiet none line next (inl (entry, new, free, _, _)) = no_free_step told f entry new quiet free
none_quiet told f script quiet none line next (inr (_, allows)) = none line next allows

end_moves : (answer : Answer) (told : Settings) (f : Front) (due : Text) (next : Move) → IsFrontQuiet told f → due ≡ end_bytes f.state → IsFirst due 0 next → IsMove answer told (Runs f ends) next
end_moves answer told f due (Move.Line line spot) quiet is (text, here, allows, ready, of) =
    record { text = text; is = here; allows = inr (quiet, subst (λ (t : Text). AllowsFirst t text (place spot)) is allows); ready = ready; of = of told }
end_moves answer told f due Move.Nothing quiet is none = none_quiet told f ends quiet (λ line next allows. none line next (subst (λ (t : Text). AllowsFirst t line next) (sym is) allows))

pub ends_moves : {E : Type 0} (r : Result Move E) (answer : Answer) (told : Settings) (f : Front) (due : Text) → IsFrontQuiet told f → due ≡ end_bytes f.state → IfOk r (λ next. IsFirst due 0 next)
    → IfOk r (λ next. IsMove answer told (Runs f ends) next)
ends_moves (Ok next) answer told f due quiet is h = end_moves answer told f due next quiet is h
ends_moves (Err e) answer told f due quiet is h = tt

pub bad_moves : (answer : Answer) (told : Settings) (f : Front) (number : ℕ) (line due : Vec ℕ Global) → IsFrontQuiet told f → line.items ≡ bad_line number ++ 10 ∷ [] → due.items ≡ end_bytes f.state
    → IsMove answer told (Runs f (stops number)) (Move.Line line (Spot.Ends due 0))
bad_moves answer told f number line due quiet is ending =
    record { text = bad_line number; is = is; allows = inr (quiet, (refl, ap Ends ending)); ready = omega arith; of = tt }

pub told_moves : {E : Type 0} (r : Result Move E) (answer : Answer) (own : Settings) (here : Place) → IfOk r (λ next. IsMove answer own here next)
    → IfOk r (λ next. (told : Settings) → own ≡ told → IsMove answer told here next)
told_moves (Ok next) answer own here h = λ told same. subst (λ (t : Settings). IsMove answer t here next) same h
told_moves (Err e) answer own here h = tt

pub due_moves : {E : Type 0} (r : Result Move E) (answer : Answer) (due : Text) (at : ℕ) → IfOk r (λ next. IsFirst due at next)
    → IfOk r (λ next. (told : Settings) → Unit {0} → IsMove answer told (Ends (drop at due)) next)
due_moves (Ok next) answer due at h = λ told of. first_moves answer told due at next h
due_moves (Err e) answer due at h = tt

-- What the reader gives -------------------------------------------------------------------

read_on : (old new : Reading) → old.finished ≡ true → Moves old new [] → trace true old.passed old.rest ≡ trace true new.passed new.rest
read_on old new finished moves = ap (trace true old.passed) moves.whole ∙ moves.same true new.rest (λ shut. (refl, refl))

event_here : (old new : Reading) (event : Event) → old.finished ≡ true → Moves old new (record { line = new.line; event = event } ∷ [])
    → trace true old.passed old.rest ≡ gives new.line event (trace true new.passed new.rest)
event_here old new event finished moves = ap (trace true old.passed) moves.whole ∙ moves.same true new.rest (λ shut. (refl, refl))

-- what an event prints
abbrev printed : Desk → Event → Text
printed run event = label_line (front_printed (front_happens (front_of run) event).entry)

-- an event counts where it is one of the machine
counts : (event : Event) (n : ℕ) → machine_events event n ≤ n + 1
counts (Event.Watch client path agrees) n = omega arith
counts (Event.Unwatch client path) n = omega arith
counts event n = omega arith

room_left : (a b n m : ℕ) → a ≤ b + 1 → n + 1 ≤ m → b + m ≤ 2 ^ 24 → a + n ≤ 2 ^ 24
room_left a b n m one less room = omega arith

event_move : (answer : Answer) (run : Desk) (old new : Reading) (event : Event) (next : Move) → IsFrontQuiet (told_of run) (front_of run) → old.finished ≡ true
    → run.manager.events + length old.rest ≤ 2 ^ 24 → Answers (Next.Event event) old new → IsEventMove run new event next
    → IsMove answer (told_of run) (Runs (front_of run) (trace true old.passed old.rest)) next
event_move answer run old new event (Move.Line line spot) quiet finished room (moves, less) (after, here, did) =
    subst (λ (s : Spot). IsMove answer (told_of run) (Runs (front_of run) (trace true old.passed old.rest)) (Move.Line line s)) (sym here)
    (record {
      text = printed run event;
      is = did.says;
      allows =
          inr (
            quiet,
            subst (λ (t : Trace). AllowsAtRest (front_of run) t (printed run event) (Runs (front_of after) (trace true new.passed new.rest))) (sym (event_here old new event finished moves))
                (refl, ap (λ (f : Front). Runs f (trace true new.passed new.rest)) did.became),
          );
      ready = (
        moves.finished ∙ finished,
        room_left after.manager.events run.manager.events (length new.rest) (length old.rest) (subst (λ n. n ≤ run.manager.events + 1) (sym did.count) (counts event run.manager.events)) (omega (arith, less)) room,
      );
      of = did.told;
    })
event_move answer run old new event Move.Nothing quiet finished room (moves, less) not = absurd not

-- an event of a script has few identifiers
pub few_here : (old new : Reading) (event : Event) → old.finished ≡ true → Answers (Next.Event event) old new → HasFewIds event
few_here old new event finished (moves, less) = few_ids true old.passed old.rest new.line event (trace true new.passed new.rest) (event_here old new event finished moves)

-- a reader that was finished needs no more
pub never_more : (old new : Reading) → old.finished ≡ true → Answers Next.NeedMore old new → ⊥
never_more old new finished (moves, _, waits, _) = let bad : true ≡ false = sym (moves.finished ∙ finished) ∙ waits.open_ in absurd (cc)

pub event_moves : {E : Type 0} (r : Result Move E) (answer : Answer) (run : Desk) (old new : Reading) (event : Event) → IsFrontQuiet (told_of run) (front_of run) → old.finished ≡ true
    → run.manager.events + length old.rest ≤ 2 ^ 24 → Answers (Next.Event event) old new → IfOk r (λ next. IsEventMove run new event next)
    → IfOk r (λ next. IsMove answer (told_of run) (Runs (front_of run) (trace true old.passed old.rest)) next)
event_moves (Ok next) answer run old new event quiet finished room answers h = event_move answer run old new event next quiet finished room answers h
event_moves (Err e) answer run old new event quiet finished room answers h = tt

-- where the script gives this
read_as : {E : Type 0} (r : Result Move E) (answer : Answer) (told : Settings) (f : Front) (old : Reading) (script : Trace) → trace true old.passed old.rest ≡ script
    → IfOk r (λ next. IsMove answer told (Runs f script) next) → IfOk r (λ next. IsMove answer told (Runs f (trace true old.passed old.rest)) next)
read_as r answer told f old script here h = subst (λ (t : Trace). IfOk r (λ next. IsMove answer told (Runs f t) next)) (sym here) h

pub over_reads : {E : Type 0} (r : Result Move E) (answer : Answer) (told : Settings) (f : Front) (old new : Reading) → old.finished ≡ true → Answers Next.End old new
    → IfOk r (λ next. IsMove answer told (Runs f ends) next) → IfOk r (λ next. IsMove answer told (Runs f (trace true old.passed old.rest)) next)
over_reads r answer told f old new finished (moves, _, at_end) h =
    read_as r answer told f old ends (read_on old new finished moves ∙ ap (trace true new.passed) at_end.empty) h

append_none : (t : Text) → t ++ [] ≡ t
append_none t = search rules

pub bad_reads : {E : Type 0} (r : Result Move E) (answer : Answer) (told : Settings) (f : Front) (old new : Reading) (number : ℕ) → old.finished ≡ true → Answers (Next.Bad number) old new
    → IfOk r (λ next. IsMove answer told (Runs f (stops number)) next) → IfOk r (λ next. IsMove answer told (Runs f (trace true old.passed old.rest)) next)
bad_reads r answer told f old new number finished (moves, _, _, is, stuck) h =
    read_as r answer told f old (stops number)
    (read_on old new finished moves ∙ ap (trace true new.passed) (sym (append_none new.rest)) ∙ stuck.same true [] new.passed (λ shut. (refl, refl)) ∙ ap stops (sym is)) h

-- Runs that go on --------------------------------------------------------------------------

pub step_moves : (answer : Answer) (old new : Desk) (reader : Reading) (line : Vec ℕ Global) → told_of new ≡ told_of old → new.manager.events ≡ old.manager.events → reader.finished ≡ true
    → old.manager.events + length reader.rest ≤ 2 ^ 24 → HasStepped answer (told_of old) (front_of old) line.items (front_of new)
    → IsMove answer (told_of old) (place (Spot.Runs old reader)) (Move.Line line (Spot.Runs new reader))
step_moves answer old new reader line told events finished room (entry, steps, is) =
    record {
      text = label_line (front_printed entry);
      is = is;
      allows = inl (entry, front_of new, steps, refl, refl);
      ready = (finished, subst (λ n. n + length reader.rest ≤ 2 ^ 24) (sym events) room);
      of = told;
    }

-- a run that rests as another would
pub rest_moves : {E : Type 0} (r : Result Move E) (answer : Answer) (old new : Desk) (reader : Reading) → told_of new ≡ told_of old → front_of new ≡ front_of old
    → IfOk r (λ next. IsMove answer (told_of new) (Runs (front_of new) (trace true reader.passed reader.rest)) next) → IfOk r (λ next. IsMove answer (told_of old) (place (Spot.Runs old reader)) next)
rest_moves r answer old new reader told front h =
    subst (λ (t : Settings). IfOk r (λ next. IsMove answer t (place (Spot.Runs old reader)) next)) told
    (subst (λ (f : Front). IfOk r (λ next. IsMove answer (told_of new) (Runs f (trace true reader.passed reader.rest)) next)) front h)
