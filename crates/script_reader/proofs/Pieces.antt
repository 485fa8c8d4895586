-- Pieces of a script, fed one after another.
use Rattle.std.proofs.Common.{◌≡◌, ℕ, ◌+◌, List, [], ◌∷◌, ◌++◌, length, take, drop, Some, true, false, refl, sym, ◌∙◌, ap, arith, append_assoc, append-nil, length-append, subst}
use Rattle.std.proofs.lemmas.List.{take-append-drop}
use Rattle.script_reader.specs.declared.line.Line.{Line}
use Rattle.script_reader.specs.declared.line.ScriptEnd.{ScriptEnd}
use Rattle.script_reader.specs.declared.line.ScriptEnd.TheVariants as script_ends
use Rattle.script_reader.specs.Script.{trace, ends, stops, IsStuck, Ends, MayFollow}
use Rattle.script_reader.specs.Reading.{Reading, HasRead, give_all}
use Rattle.script_reader.specs.Whole.{end_of, Settles}

-- all but the rest was fed, and these events were given
pub record Fed (script rest : List ℕ) (lines : List Line) (r : Reading) : Type 0 where
  pub bytes : List ℕ
  pub whole : script ≡ bytes ++ rest
  pub read : HasRead bytes lines r
  pub open_ : r.finished ≡ false
  pub fed : r.fed ≡ length bytes

pub fed_none : (script : List ℕ) (r : Reading) → HasRead [] [] r → r.finished ≡ false → r.fed ≡ 0 → Fed script script [] r
fed_none script r read open_ fed = record { bytes = []; whole = refl; read = read; open_ = open_; fed = fed }

next_whole : (script bytes rest front back : List ℕ) (n : ℕ) → front ≡ take n rest → back ≡ drop n rest → script ≡ bytes ++ rest
    → script ≡ (bytes ++ front) ++ back
next_whole script bytes rest front back n is then_ whole =
    whole ∙ ap (λ t. bytes ++ t) (sym (ap (λ f. f ++ back) is ∙ ap (λ b. take n rest ++ b) then_ ∙ take-append-drop n rest))
    ∙ sym (append_assoc bytes front back)

-- a piece from the front of the rest is fed, and more events given
pub fed_next : (script rest front back : List ℕ) (n : ℕ) (lines more : List Line) (r new : Reading) → front ≡ take n rest → back ≡ drop n rest
    → Fed script rest lines r → ((all : List ℕ) → HasRead all lines r → HasRead (all ++ front) more new)
    → new.finished ≡ r.finished → new.fed ≡ r.fed + length front → Fed script back more new
fed_next script rest front back n lines more r new is then_ so reads finished fed = record {
  bytes = so.bytes ++ front;
  whole = next_whole script so.bytes rest front back n is then_ so.whole;
  read = reads so.bytes so.read;
  open_ = finished ∙ so.open_;
  fed = fed ∙ ap (λ m. m + length front) so.fed ∙ sym (length-append so.bytes front);
}

-- a reader that is stuck in what was fed, whatever follows
stuck_whole : (all more : List ℕ) (lines : List Line) (r : Reading) → r.finished ≡ false → HasRead all lines r → IsStuck r.finished r.rest
    → trace true 0 (all ++ more) ≡ give_all lines (stops (r.passed + 1))
stuck_whole all more lines r open_ so stuck =
    let free : (rest m : List ℕ) → MayFollow r.finished rest true m = λ rest m f. absurd (let x : true ≡ false = sym f ∙ open_ in cc) in
    ap (λ a. trace true 0 (a ++ more)) so.whole
    ∙ ap (trace true 0) (append_assoc so.front r.rest more)
    ∙ so.same true (r.rest ++ more) (free r.rest (r.rest ++ more))
    ∙ ap (give_all lines) (stuck.same true more r.passed (free [] more))

-- the same after the finish
stuck_last : (all : List ℕ) (lines : List Line) (r : Reading) → r.finished ≡ true → HasRead all lines r → IsStuck r.finished r.rest
    → trace true 0 all ≡ give_all lines (stops (r.passed + 1))
stuck_last all lines r shut so stuck =
    ap (trace true 0) so.whole
    ∙ so.same true r.rest (λ f. (refl, refl))
    ∙ ap (λ t. give_all lines (trace true r.passed t)) (sym (append-nil r.rest))
    ∙ ap (give_all lines) (stuck.same true [] r.passed (λ f. (refl, refl)))

ends_last : (all : List ℕ) (lines : List Line) (r : Reading) → HasRead all lines r → Ends r.finished r.rest → trace true 0 all ≡ give_all lines ends
ends_last all lines r so done =
    ap (trace true 0) so.whole
    ∙ so.same true r.rest (λ f. (refl, refl))
    ∙ ap (λ t. give_all lines (trace true r.passed t)) done.empty

-- the end that is decided before the last piece
pub settled : (script rest : List ℕ) (lines : List Line) (r : Reading) (end : ScriptEnd) → Fed script rest lines r → Settles (Some end) r
    → give_all lines (end_of end) ≡ trace true 0 script
settled script rest lines r script_ends.End so done = absurd (let x : true ≡ false = sym done.shut ∙ so.open_ in cc)
settled script rest lines r (script_ends.Bad line) so done = sym (
    ap (trace true 0) so.whole ∙ stuck_whole so.bytes rest lines r so.open_ so.read done.0
    ∙ ap (λ n. give_all lines (stops n)) (sym done.1))

-- the end after the last piece
pub settled_last : (all : List ℕ) (lines : List Line) (r : Reading) (end : ScriptEnd) → r.finished ≡ true → HasRead all lines r → Settles (Some end) r
    → give_all lines (end_of end) ≡ trace true 0 all
settled_last all lines r script_ends.End shut so done = sym (ends_last all lines r so done)
settled_last all lines r (script_ends.Bad line) shut so done = sym (
    stuck_last all lines r shut so done.0 ∙ ap (λ n. give_all lines (stops n)) (sym done.1))

pub all_fed : (script rest : List ℕ) (lines : List Line) (r : Reading) → length rest ≡ 0 → Fed script rest lines r → HasRead script lines r
all_fed script [] lines r none so = subst (λ a. HasRead a lines r) (sym (so.whole ∙ append-nil so.bytes)) so.read
all_fed script (b ∷ rest) lines r none so = absurd (omega arith)
