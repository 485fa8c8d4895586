-- How a call of a reader passes over the script.
use Rattle.std.proofs.Common.{◌≡◌, ℕ, ◌+◌, ◌≤◌, List, [], ◌∷◌, ◌++◌, length, take, drop, Bool, refl, sym, ◌∙◌, ap, arith, append_assoc, length-drop, subst, ◌-◌, add_assoc, Bor, Ok, true}
use Rattle.std.proofs.lemmas.List.{take-append-drop, drop-drop}
use Rattle.pnp_labels.specs.declared.event.Event.{Event}
use Rattle.script_reader.specs.declared.line.Line.{Line}
use Rattle.script_reader.specs.declared.fault.LineError.{LineError}
use Rattle.std.specs.Result.{result_ok}
use Rattle.script_reader.specs.Faults.{Fails, is_bad}
use Rattle.script_reader.specs.Openings.{LeadsTo}
use Rattle.script_reader.specs.declared.events.Opening.TheVariants as openings
use Rattle.pnp_labels.specs.declared.label.EventWord.{EventWord}
use Rattle.script_reader.specs.Lines.{read_line, event_at}
use Rattle.script_reader.specs.Words.{words_of}
use Rattle.script_reader.specs.Script.{trace, gives, MayFollow, GivesEvent, IsStuck}
use Rattle.script_reader.specs.declared.step.Step.{Step}
use Rattle.script_reader.specs.declared.step.Step.TheVariants as steps
use Rattle.script_reader.specs.Steps.{Says, Reads, IsNoSkip}
use Rattle.script_reader.proofs.Errors.{bad_has_none}
use Rattle.script_reader.proofs.Skipping.{rest_is}
use Rattle.script_reader.specs.Reading.{Reading, Moves, SkipsTo}
use Rattle.script_reader.specs.Answers.{Answers, given}
use Rattle.script_reader.specs.declared.next.Next.{Next}
use Rattle.script_reader.specs.declared.next.Next.TheVariants as nexts

pub moves_over : (old new : Reading) (count lines : ℕ) → new.rest ≡ drop count old.rest → new.passed ≡ old.passed + lines
    → new.finished ≡ old.finished → new.fed ≡ old.fed → new.stored ≤ old.stored → SkipsTo old.finished old.rest count lines → Moves old new []
moves_over old new count lines rest passed finished fed stored so = record {
  front = take count old.rest;
  whole = sym (ap (λ r. take count old.rest ++ r) rest ∙ take-append-drop count old.rest);
  same = λ later more may.
      so.same later more old.passed (λ f. ((may f).0, (may f).1 ∙ rest)) ∙ ap (λ n. trace later n more) (sym passed);
  finished = finished;
  fed = fed;
  stored = stored;
}

abbrev pub one_event : ℕ → Event → List Line
one_event n event = record { line = n; event = event } ∷ []

pub moves_event : (old new : Reading) (count lines k : ℕ) (event : Event) → new.rest ≡ drop k (drop count old.rest)
    → new.passed ≡ old.passed + lines + 1 → new.line ≡ new.passed → new.finished ≡ old.finished → new.fed ≡ old.fed → new.stored ≤ old.stored
    → SkipsTo old.finished old.rest count lines → GivesEvent old.finished (drop count old.rest) k event
    → Moves old new (one_event new.line event)
moves_event old new count lines k event rest passed line finished fed stored so next =
    let back : take k (drop count old.rest) ++ new.rest ≡ drop count old.rest =
    ap (λ r. take k (drop count old.rest) ++ r) rest ∙ take-append-drop k (drop count old.rest) in
    record {
      front = take count old.rest ++ take k (drop count old.rest);
      whole = sym (append_assoc (take count old.rest) (take k (drop count old.rest)) new.rest
          ∙ ap (λ r. take count old.rest ++ r) back ∙ take-append-drop count old.rest);
      same = λ later more may.
          let on : MayFollow old.finished (drop k (drop count old.rest)) later more = λ f. ((may f).0, (may f).1 ∙ rest) in
          let over : MayFollow old.finished (drop count old.rest) later (take k (drop count old.rest) ++ more) =
          λ f. ((may f).0, ap (λ m. take k (drop count old.rest) ++ m) (may f).1 ∙ back) in
          ap (trace later old.passed) (append_assoc (take count old.rest) (take k (drop count old.rest)) more)
          ∙ so.same later (take k (drop count old.rest) ++ more) old.passed over
          ∙ next.same later more (old.passed + lines) on
          ∙ ap (λ n. gives n event (trace later n more)) (sym passed)
          ∙ ap (λ n. gives n event (trace later new.passed more)) (sym line);
      finished = finished;
      fed = fed;
      stored = stored;
    }

-- the view of a reader's fields
abbrev pub seen : List ℕ → ℕ → ℕ → ℕ → ℕ → Bool → Bool → Reading
seen bytes at passed line fed finished bad_ = record { rest = drop at bytes; passed = passed; line = line; fed = fed; stored = length bytes; finished = finished; bad = bad_ }

pub skips_here : (bytes from : List ℕ) (at : ℕ) (finished : Bool) (count lines : ℕ) → from ≡ bytes
    → SkipsTo finished (take (length from - at) (drop at from)) count lines → SkipsTo finished (drop at bytes) count lines
skips_here bytes from at finished count lines is so =
    subst (λ b. SkipsTo finished (drop at b) count lines) is (subst (λ r. SkipsTo finished r count lines) (rest_is from at) so)

pub says_here : (bytes from : List ℕ) (at : ℕ) (finished : Bool) (count : ℕ) (step step_ : Step) → from ≡ bytes → step ≡ step_
    → Says finished (drop count (take (length from - at) (drop at from))) step → Says finished (drop count (drop at bytes)) step_
says_here bytes from at finished count step step_ is one so =
    subst (λ b. Says finished (drop count (drop at b)) step_) is
    (subst (λ r. Says finished (drop count r) step_) (rest_is from at)
    (subst (λ s. Says finished (drop count (take (length from - at) (drop at from))) s) one so))

pub answer_over : (old : Reading) (bytes from : List ℕ) (at passed line fed : ℕ) (finished bad_ later : Bool) (count lines last : ℕ)
    → seen bytes at passed line fed finished bad_ ≡ old → from ≡ bytes
    → SkipsTo finished (take (length from - at) (drop at from)) count lines
    → Moves old (seen bytes (at + count) (passed + lines) last fed finished later) []
answer_over old bytes from at passed line fed finished bad_ later count lines last is same so =
    subst (λ o. Moves o (seen bytes (at + count) (passed + lines) last fed finished later) []) is
    (moves_over (seen bytes at passed line fed finished bad_) (seen bytes (at + count) (passed + lines) last fed finished later) count lines
    (sym (drop-drop count at bytes)) refl refl refl (omega arith) (skips_here bytes from at finished count lines same so))

-- the same where what was passed is dropped
pub answer_dropped : (old : Reading) (bytes from kept : List ℕ) (at passed line fed : ℕ) (finished bad_ later : Bool) (count lines last : ℕ)
    → seen bytes at passed line fed finished bad_ ≡ old → from ≡ bytes → kept ≡ drop (at + count) bytes
    → SkipsTo finished (take (length from - at) (drop at from)) count lines
    → Moves old (seen kept 0 (passed + lines) last fed finished later) []
answer_dropped old bytes from kept at passed line fed finished bad_ later count lines last is same keeps so =
    subst (λ k. Moves old (seen k 0 (passed + lines) last fed finished later) []) (sym keeps)
    (subst (λ o. Moves o (seen (drop (at + count) bytes) 0 (passed + lines) last fed finished later) []) is
    (moves_over (seen bytes at passed line fed finished bad_) (seen (drop (at + count) bytes) 0 (passed + lines) last fed finished later) count lines
    (sym (drop-drop count at bytes)) refl refl refl (omega (arith, length-drop (at + count) bytes)) (skips_here bytes from at finished count lines same so)))

-- what was read of a line is its event
pub gives_event : (finished : Bool) (rest : List ℕ) (k : ℕ) (text : List ℕ) (event : Event) → Reads finished rest k text
    → read_line (words_of text) ≡ Ok event → GivesEvent finished rest k event
gives_event finished rest k text event says is = says.gives_event event (ap result_ok is)

pub gives_at : (finished : Bool) (rest : List ℕ) (k : ℕ) (text : List ℕ) (keyword : EventWord) (path : List ℕ) (event : Event) → Reads finished rest k text
    → LeadsTo (openings.At keyword path) (read_line (words_of text)) → event ≡ event_at keyword path → GivesEvent finished rest k event
gives_at finished rest k text keyword path event says leads is = gives_event finished rest k text event says (leads.1 ∙ ap (λ e. Ok e) (sym is))

-- and a line with a fault has none
pub gives_none : (finished : Bool) (rest : List ℕ) (k : ℕ) (text : List ℕ) (error : LineError) → Reads finished rest k text
    → Fails error (read_line (words_of text)) → is_bad error ≡ true → IsStuck finished rest
gives_none finished rest k text error says fails bad = says.is_stuck (bad_has_none error (read_line (words_of text)) bad fails)

pub answer_event : (old : Reading) (bytes : List ℕ) (at passed line fed : ℕ) (finished bad_ : Bool) (count lines k : ℕ) (event : Event)
    → seen bytes at passed line fed finished bad_ ≡ old → SkipsTo old.finished old.rest count lines
    → GivesEvent old.finished (drop count old.rest) k event
    → Answers (nexts.Event event) old (seen bytes (at + (count + k)) (passed + (lines + 1)) (passed + (lines + 1)) fed finished bad_)
answer_event old bytes at passed line fed finished bad_ count lines k event is =
    subst (λ o. SkipsTo o.finished o.rest count lines → GivesEvent o.finished (drop count o.rest) k event
    → Answers (nexts.Event event) o (seen bytes (at + (count + k)) (passed + (lines + 1)) (passed + (lines + 1)) fed finished bad_)) is (λ so next. (
      moves_event (seen bytes at passed line fed finished bad_) (seen bytes (at + (count + k)) (passed + (lines + 1)) (passed + (lines + 1)) fed finished bad_) count lines k event
          (ap (λ n. drop n bytes) (sym (add_assoc at count k)) ∙ sym (drop-drop k (at + count) bytes) ∙ ap (drop k) (sym (drop-drop count at bytes))) (sym (add_assoc passed lines 1)) refl refl refl (omega arith)
          so next,
      omega (arith, next.some, next.inside, length-drop count (drop at bytes), length-drop at bytes, length-drop (at + (count + k)) bytes),
    ))

pub over_here : (bytes : List ℕ) (at count : ℕ) → drop count (drop at bytes) ≡ drop (at + count) bytes
over_here bytes at count = drop-drop count at bytes

pub is_stop : (step : Step) → IsNoSkip step → ((k : ℕ) (text : Bor (List ℕ)) → step ≡ steps.Read k text → ⊥) → (step ≡ steps.NeedMore → ⊥) → (step ≡ steps.End → ⊥)
    → step ≡ steps.Bad
is_stop (steps.Skip k) skip read more end = absurd skip
is_stop (steps.Read k text) skip read more end = absurd (read k text refl)
is_stop steps.Bad skip read more end = refl
is_stop steps.NeedMore skip read more end = absurd (more refl)
is_stop steps.End skip read more end = absurd (end refl)

-- what is known of the bytes is known of the reader
pub skips_from : (old : Reading) (bytes from : List ℕ) (at passed line fed : ℕ) (finished bad_ : Bool) (count lines : ℕ)
    → seen bytes at passed line fed finished bad_ ≡ old → from ≡ bytes
    → SkipsTo finished (take (length from - at) (drop at from)) count lines → SkipsTo old.finished old.rest count lines
skips_from old bytes from at passed line fed finished bad_ count lines is same so =
    subst (λ o. SkipsTo o.finished o.rest count lines) is (skips_here bytes from at finished count lines same so)

pub stuck_from : (old : Reading) (bytes : List ℕ) (at passed line fed : ℕ) (finished bad_ : Bool) (count : ℕ)
    → seen bytes at passed line fed finished bad_ ≡ old → IsStuck finished (drop count (drop at bytes)) → IsStuck old.finished (drop count old.rest)
stuck_from old bytes at passed line fed finished bad_ count is so = subst (λ o. IsStuck o.finished (drop count o.rest)) is so

pub answer_stop : (old new : Reading) (next : Next) (count lines : ℕ) → SkipsTo old.finished old.rest count lines → IsStuck old.finished (drop count old.rest)
    → new ≡ record old { rest = drop count old.rest; passed = old.passed + lines; line = old.passed + lines + 1; bad = true } → next ≡ nexts.Bad new.line
    → Answers next old new
answer_stop old new next count lines so stuck is same =
    let stopped : Reading = record old { rest = drop count old.rest; passed = old.passed + lines; line = old.passed + lines + 1; bad = true } in
    subst (λ n. Answers n old new) (sym same)
    (subst (λ n. Answers (nexts.Bad n.line) old n) (sym is)
    (moves_over old stopped count lines refl refl refl refl (omega arith) so, refl, refl, refl, stuck))

pub stop_moves : (old new : Reading) (next : Next) (count lines : ℕ) → SkipsTo old.finished old.rest count lines
    → new ≡ record old { rest = drop count old.rest; passed = old.passed + lines; line = old.passed + lines + 1; bad = true } → next ≡ nexts.Bad new.line
    → Moves old new (given next new)
stop_moves old new next count lines so is same =
    let stopped : Reading = record old { rest = drop count old.rest; passed = old.passed + lines; line = old.passed + lines + 1; bad = true } in
    subst (λ n. Moves old new (given n new)) (sym same)
    (subst (λ n. Moves old n []) (sym is) (moves_over old stopped count lines refl refl refl refl (omega arith) so))
