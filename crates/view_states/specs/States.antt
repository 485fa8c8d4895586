-- What a page tells of the state behind each row: a text, by what of it changes from row to row.
use Rattle.std.specs.Prelude.{ℕ, ◌≡◌, List, [], ◌∷◌, ◌++◌, Option, Some, None, codes, drop, length, take}
use Rattle.std.specs.Fmt.{decimal}
use Rattle.pnp_labels.specs.Texts.{Text}

-- a place where a text changes: so many bytes stay, then so many go, and these come
pub record Edit : Type 0 where
  pub stay : ℕ
  pub go : ℕ
  pub come : Text

-- a text after these edits, each behind the one before it; what is left stays
abbrev pub edited : List Edit → Text → Text
edited [] text = text
edited (e ∷ edits) text = take e.stay text ++ e.come ++ edited edits (drop e.go (drop e.stay text))

-- as they are written: "STAY GO LENGTH ", and the bytes that come
abbrev pub edit_text : Edit → Text
edit_text e = decimal e.stay ++ 32 ∷ decimal e.go ++ 32 ∷ decimal (length e.come) ++ 32 ∷ e.come

abbrev pub edits_text : List Edit → Text
edits_text [] = []
edits_text (e ∷ edits) = edit_text e ++ edits_text edits

-- edits were written that make a text into another
pub record IsEdited (before after old new : Text) : Type 0 where
  pub edits : List Edit
  pub written : after ≡ before ++ edits_text edits
  pub is : edited edits old ≡ new

-- an edit was written, with which edits of one rest into the other make the text into the other
pub record IsNext (before after old new old_rest new_rest : Text) : Type 0 where
  pub edit : Edit
  pub written : after ≡ before ++ edit_text edit
  pub leads : (edits : List Edit) → edited edits old_rest ≡ new_rest → edited (edit ∷ edits) old ≡ new

-- This is written for rows that have these texts, the last of which to be told is the third: for each row the edits of the text that was
-- told before it, or a mark that nothing is told of it.
pub data Tells : Text → List (Option Text) → Text → Type 0 where
  none : Tells [] [] []
  told : (written : Text) (rows : List (Option Text)) (last : Text) (edits : List Edit) → Tells written rows last
      → Tells (written ++ edits_text edits ++ 10 ∷ []) (rows ++ Some (edited edits last) ∷ []) (edited edits last)
  passed : (written : Text) (rows : List (Option Text)) (last : Text) → Tells written rows last → Tells (written ++ 45 ∷ 10 ∷ []) (rows ++ None ∷ []) last

-- what was written so far, and the text that was told last
pub record Telling : Type 0 where
  pub written : Text
  pub last : Text
