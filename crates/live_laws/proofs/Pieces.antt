-- Texts that are lines: which of these are notes, and which are asks.
use Rattle.std.proofs.Common.{ℕ, ◌≡◌, Bool, true, false, not, List, [], ◌∷◌, ◌++◌, codes, refl, sym, ap, ◌∙◌, if◌then◌else◌}
use Rattle.std.specs.Fmt.{decimal}
use Rattle.std.specs.List.{filter}
use Rattle.std.proofs.lemmas.List.Elements.{filter-append}
use Rattle.pnp_labels.specs.Texts.{Text, label_line}
use Rattle.pnp_labels.specs.declared.label.Label.{Label}
use Rattle.pnp_labels.specs.declared.states.DevState.{DevState}
use Rattle.pnp_labels.specs.declared.words.Answer.{Answer}
use Rattle.pnp_labels.specs.declared.words.Minor.{Minor}
use Rattle.pnp_model.specs.Endings.{joined}
use Rattle.free_model.proofs.Outs.{joined_on}
use Rattle.live_model.specs.Notes.{broke_line, broke_lines, done_line, fits, misfit_tag, probe_lines}
use Rattle.live_laws.specs.Notes.{is_ask, is_note, without_notes}

-- lines that are notes, and none of them an ask
pub record Notes (text : Text) : Type 0 where
  pub lines : List Text
  pub is : text ≡ joined lines
  pub notes : without_notes lines ≡ []
  pub none : filter is_ask lines ≡ []

-- no line of a label is a note
pub label_is : (label : Label) → is_note (label_line label) ≡ false
label_is (Label.Asked Minor.Start path driver shown) = refl
label_is (Label.Asked Minor.QueryRemove path driver shown) = refl
label_is (Label.Asked Minor.Remove path driver shown) = refl
label_is (Label.Asked Minor.CancelRemove path driver shown) = refl
label_is (Label.Asked Minor.Stop path driver shown) = refl
label_is (Label.Asked Minor.QueryStop path driver shown) = refl
label_is (Label.Asked Minor.CancelStop path driver shown) = refl
label_is (Label.Asked Minor.SurpriseRemoval path driver shown) = refl
label_is _ = refl

-- nor an ask
pub label_asks : (label : Label) → is_ask (label_line label) ≡ false
label_asks (Label.Asked Minor.Start path driver shown) = refl
label_asks (Label.Asked Minor.QueryRemove path driver shown) = refl
label_asks (Label.Asked Minor.Remove path driver shown) = refl
label_asks (Label.Asked Minor.CancelRemove path driver shown) = refl
label_asks (Label.Asked Minor.Stop path driver shown) = refl
label_asks (Label.Asked Minor.QueryStop path driver shown) = refl
label_asks (Label.Asked Minor.CancelStop path driver shown) = refl
label_asks (Label.Asked Minor.SurpriseRemoval path driver shown) = refl
label_asks _ = refl

-- Notes --------------------------------------------------------------------------------------

pub no_notes : Notes []
no_notes = record { lines = []; is = refl; notes = refl; none = refl }

pub more_notes : (a b : Text) → Notes a → Notes b → Notes (a ++ b)
more_notes a b h g = record {
  lines = h.lines ++ g.lines;
  is = ap (λ (t : Text). t ++ b) h.is ∙ ap (λ (t : Text). joined h.lines ++ t) g.is ∙ sym (joined_on h.lines g.lines);
  notes = filter-append (λ (line : Text). not (is_note line)) h.lines g.lines ∙ ap (λ (t : List Text). t ++ without_notes g.lines) h.notes ∙ g.notes;
  none = filter-append is_ask h.lines g.lines ∙ ap (λ (t : List Text). t ++ filter is_ask g.lines) h.none ∙ g.none;
}

-- one note
note : (line : Text) → is_note line ≡ true → is_ask line ≡ false → Notes (line ++ 10 ∷ [])
note line is asks = record {
  lines = line ∷ [];
  is = refl;
  notes = ap (λ (b : Bool). if b then line ∷ [] else []) (ap not is);
  none = ap (λ (b : Bool). if b then line ∷ [] else []) asks;
}

done_note : (number : ℕ) (driver : Text) → Notes (done_line number driver)
done_note number driver = note (codes "# done " ++ decimal number ++ 32 ∷ driver) refl refl

broke_note : (number : ℕ) (driver tag : Text) → Notes (broke_line number driver tag)
broke_note number driver tag = note (codes "# broke " ++ decimal number ++ 32 ∷ driver ++ 32 ∷ tag) refl refl

pub broke_notes : (number : ℕ) (driver : Text) (tags : List Text) → Notes (broke_lines number driver tags)
broke_notes number driver [] = no_notes
broke_notes number driver (tag ∷ tags) = more_notes (broke_line number driver tag) (broke_lines number driver tags) (broke_note number driver tag) (broke_notes number driver tags)

pub done_notes : (number : ℕ) (driver : Text) (tags : List Text) → Notes (done_line number driver ++ broke_lines number driver tags)
done_notes number driver tags = more_notes (done_line number driver) (broke_lines number driver tags) (done_note number driver) (broke_notes number driver tags)

pub probe_notes : (number : ℕ) (driver : Text) (state : DevState) (answer : Answer) (tags : List Text) → Notes (probe_lines number driver state answer tags)
probe_notes number driver state answer tags = by_fit (fits state answer)
  where
    by_fit : (b : Bool) → Notes (if b then broke_lines number driver tags else broke_lines number driver (misfit_tag state answer ∷ tags))
    by_fit true = broke_notes number driver tags
    by_fit false = broke_notes number driver (misfit_tag state answer ∷ tags)

-- the line of an ask, without its LF
abbrev pub ask_text : ℕ → Text → Text
ask_text number words = codes "# ask " ++ decimal number ++ 32 ∷ words
