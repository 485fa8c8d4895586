-- What was fed and what was given, from call to call.
use Rattle.std.proofs.Common.{◌≡◌, ℕ, List, [], ◌∷◌, ◌++◌, true, false, refl, sym, ◌∙◌, ap, append_assoc}
use Rattle.script_reader.specs.declared.line.Line.{Line}
use Rattle.script_reader.specs.Script.{Trace, trace, gives, MayFollow}
use Rattle.script_reader.specs.Reading.{Reading, Moves, HasRead, give_all}

give_all-append : (xs ys : List Line) (t : Trace) → give_all (xs ++ ys) t ≡ give_all xs (give_all ys t)
give_all-append [] ys t = refl
give_all-append (x ∷ xs) ys t = ap (gives x.line x.event) (give_all-append xs ys t)

-- a new reader has read nothing
pub has_read_none : (r : Reading) → r.rest ≡ [] → r.passed ≡ 0 → HasRead [] [] r
has_read_none r rest passed = record {
  front = [];
  whole = sym rest;
  same = λ later more may. ap (λ n. trace later n more) (sym passed);
}

-- a piece more
pub has_read_piece : (all piece : List ℕ) (events : List Line) (old new : Reading) → old.finished ≡ false → new.finished ≡ false
    → new.rest ≡ old.rest ++ piece → new.passed ≡ old.passed → HasRead all events old → HasRead (all ++ piece) events new
has_read_piece all piece events old new open_ still rest passed so = record {
  front = so.front;
  whole = ap (λ a. a ++ piece) so.whole ∙ append_assoc so.front old.rest piece ∙ ap (λ r. so.front ++ r) (sym rest);
  same = λ later more may.
      so.same later more (λ f. absurd (let x : true ≡ false = sym f ∙ open_ in cc)) ∙ ap (λ n. give_all events (trace later n more)) (sym passed);
}

-- the finish
pub has_read_finish : (all : List ℕ) (events : List Line) (old new : Reading) → new.finished ≡ true
    → new.rest ≡ old.rest → new.passed ≡ old.passed → HasRead all events old → HasRead all events new
has_read_finish all events old new shut rest passed so = record {
  front = so.front;
  whole = so.whole ∙ ap (λ r. so.front ++ r) (sym rest);
  same = λ later more may.
      so.same later more (λ f. ((may shut).0, (may shut).1 ∙ rest)) ∙ ap (λ n. give_all events (trace later n more)) (sym passed);
}

-- one answer
pub has_read_moves : (all : List ℕ) (events more_ : List Line) (old new : Reading) → Moves old new more_
    → HasRead all events old → HasRead all (events ++ more_) new
has_read_moves all events more_ old new step so = record {
  front = so.front ++ step.front;
  whole = so.whole ∙ ap (λ r. so.front ++ r) step.whole ∙ sym (append_assoc so.front step.front new.rest);
  same = λ later more may.
      let on : MayFollow old.finished new.rest later more = λ f. may (step.finished ∙ f) in
      let over : MayFollow old.finished old.rest later (step.front ++ more) =
      λ f. ((on f).0, ap (λ m. step.front ++ m) (on f).1 ∙ sym step.whole) in
      ap (trace later 0) (append_assoc so.front step.front more)
      ∙ so.same later (step.front ++ more) over
      ∙ ap (give_all events) (step.same later more on)
      ∙ sym (give_all-append events more_ (trace later new.passed more));
}

-- so the trace of all that was fed is what was given, and then what the rest gives
pub has_read_whole : (all : List ℕ) (events : List Line) (r : Reading) → HasRead all events r
    → trace r.finished 0 all ≡ give_all events (trace r.finished r.passed r.rest)
has_read_whole all events r so = ap (trace r.finished 0) so.whole ∙ so.same r.finished r.rest (λ f. (f, refl))
