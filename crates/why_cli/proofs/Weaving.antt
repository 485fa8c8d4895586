-- Notes are put between the lines of a text.
use Rattle.std.proofs.Common.{◌≡◌, ◌≢◌, ℕ, Bool, true, false, List, [], ◌∷◌, ◌++◌, Option, Some, None, map, refl, sym, ◌∙◌, ap, subst, append_assoc, append-nil, cond, nat_eq, arith}
use Rattle.std.specs.List.{AllByRecursion}
use Rattle.std.specs.Prelude.{codes}
use Rattle.std.specs.Fmt.{decimal}
use Rattle.inf_reader.specs.declared.parts.InfError.{InfError}
use Rattle.pnp_cli.specs.Infs.{error_at, error_number, refusal_line}
use Rattle.pnp_labels.specs.Texts.{Text, label_line}
use Rattle.pnp_labels.specs.declared.label.Label.{Label}
use Rattle.pnp_cli.specs.Outputs.{text_of, error_line}
use Rattle.pnp_cli.specs.Pieces.{line_of_bad}
use Rattle.pnp_cli.proofs.Telling.{text_append}
use Rattle.why_cli.specs.Woven.{Piece, HasNotes, IsWoven, note_line, note_lines, shown}

-- nothing was written
pub notes_none : HasNotes [] []
notes_none = record { pieces = []; notes = tt; without = refl; all = refl }

not_true : false ≡ true → ⊥
not_true h = cc

-- no byte that is shown ends a line
shown_by : (b : Bool) (byte : ℕ) → nat_eq byte 10 ≡ b → cond b 63 byte ≢ 10
shown_by true byte e = λ h. let no : 63 ≡ 10 = h in absurd (omega (arith, no))
shown_by false byte e = λ h. not_true (sym e ∙ ap (λ (x : ℕ). nat_eq x 10) h)

no_end : (note : List ℕ) → AllByRecursion (λ byte. byte ≢ 10) (map shown note)
no_end [] = tt
no_end (byte ∷ note) = (shown_by (nat_eq byte 10) byte refl, no_end note)

-- a line of a note is put behind
pub notes_note : (lines old new : Text) (note : List ℕ) → new ≡ old ++ note_line (map shown note) → HasNotes lines old → HasNotes lines new
notes_note lines old new note is h =
    record {
      pieces = Piece.Note (map shown note) ∷ h.pieces;
      notes = (no_end note, h.notes);
      without = h.without;
      all = is ∙ ap (λ (x : Text). x ++ note_line (map shown note)) h.all;
    }

-- lines of a note are
pub notes_more : (lines old new : Text) (notes : List Text) → new ≡ old ++ note_lines notes → HasNotes lines old → HasNotes lines new
notes_more lines old new [] is h = subst (λ (x : Text). HasNotes lines x) (sym (is ∙ append-nil old)) h
notes_more lines old new (note ∷ notes) is h =
    notes_more lines (old ++ note_line (map shown note)) new notes (is ∙ sym (append_assoc old (note_line (map shown note)) (note_lines notes)))
    (notes_note lines old (old ++ note_line (map shown note)) note refl h)

-- a line of a label is
pub notes_label : (labels : List Label) (old new : Text) (label : Label) → new ≡ old ++ (label_line label ++ 10 ∷ []) → HasNotes (text_of labels) old → HasNotes (text_of (labels ++ label ∷ [])) new
notes_label labels old new label is h =
    record {
      pieces = Piece.Line (label_line label) ∷ h.pieces;
      notes = h.notes;
      without = text_append labels (label ∷ []) ∙ ap (λ (x : Text). x ++ (label_line label ++ 10 ∷ [])) h.without;
      all = is ∙ ap (λ (x : Text). x ++ (label_line label ++ 10 ∷ [])) h.all;
    }

-- the line that tells of a bad line is
pub notes_bad : (lines old new : Text) (bad : Option ℕ) → new ≡ old ++ line_of_bad bad → HasNotes lines old → HasNotes (lines ++ line_of_bad bad) new
notes_bad lines old new None is h = subst (λ (x : Text). HasNotes x new) (sym (append-nil lines)) (subst (λ (x : Text). HasNotes lines x) (sym (is ∙ append-nil old)) h)
notes_bad lines old new (Some number) is h =
    record {
      pieces = Piece.Line (codes "script error line " ++ decimal number) ∷ h.pieces;
      notes = h.notes;
      without = ap (λ (x : Text). x ++ error_line number) h.without;
      all = is ∙ ap (λ (x : Text). x ++ error_line number) h.all;
    }

-- a text whose lines and notes are all that there is
pub woven_whole : (lines text : Text) → HasNotes lines text → IsWoven lines text
woven_whole lines text h = record { lines = lines; woven = text; rest = []; notes = h; without = sym (append-nil lines); all = sym (append-nil text) }

-- The line of a refused INF -----------------------------------------------------------------

refusal_whole : (number : ℕ) (error : InfError) → HasNotes (refusal_line number error) (refusal_line number error)
refusal_whole number error =
    record {
      pieces = Piece.Line (codes "inf " ++ decimal number ++ codes " error " ++ decimal (error_number error) ++ codes " line " ++ decimal (error_at error)) ∷ [];
      notes = tt;
      without = refl;
      all = refl;
    }

pub woven_refusal : (number : ℕ) (error : InfError) (line text : Text) → line ≡ refusal_line number error → ((lines : Text) → HasNotes lines line → HasNotes lines text) → IsWoven (refusal_line number error) text
woven_refusal number error line text is notes =
    woven_whole (refusal_line number error) text
    (notes (refusal_line number error) (subst (λ (x : Text). HasNotes (refusal_line number error) x) (sym is) (refusal_whole number error)))
