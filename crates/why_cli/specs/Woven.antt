-- A text with notes between its lines.
use Rattle.std.specs.Prelude.{ℕ, ◌≡◌, ◌==◌, List, [], ◌∷◌, ◌++◌, codes, map, ◌≢◌, if◌then◌else◌}
use Rattle.std.specs.List.{AllByRecursion, flat_map}
use Rattle.pnp_labels.specs.Texts.{Text}

-- whole lines of a text, or a line of a note, without the line feed at the end
pub data Piece : Type 0 where
  Line : (words : Text) → Piece
  Note : (words : Text) → Piece

-- a byte of a note as it is written
abbrev pub shown : ℕ → ℕ
shown byte = if byte == 10 then 63 else byte

-- a line of a note begins with a number sign and a blank
abbrev pub note_line : Text → Text
note_line words = codes "# " ++ (words ++ 10 ∷ [])

-- the lines of a note, in order
abbrev pub note_lines : List Text → Text
note_lines notes = flat_map (λ note. note_line (map shown note)) notes

-- no line ends within a line of a note
abbrev pub AreNotes : List Piece → Type 0
AreNotes [] = Unit {0}
AreNotes (Piece.Line words ∷ earlier) = AreNotes earlier
AreNotes (Piece.Note words ∷ earlier) = AllByRecursion (λ byte. byte ≢ 10) words × AreNotes earlier

-- the lines without the notes; the last piece stands first
abbrev pub lines_of : List Piece → Text
lines_of [] = []
lines_of (Piece.Line words ∷ earlier) = lines_of earlier ++ (words ++ 10 ∷ [])
lines_of (Piece.Note words ∷ earlier) = lines_of earlier

-- and with them
abbrev pub text_with : List Piece → Text
text_with [] = []
text_with (Piece.Line words ∷ earlier) = text_with earlier ++ (words ++ 10 ∷ [])
text_with (Piece.Note words ∷ earlier) = text_with earlier ++ note_line words

-- a text has these lines, and between them lines of notes
pub record HasNotes (lines text : Text) : Type 0 where
  pub pieces : List Piece
  pub notes : AreNotes pieces
  pub without : lines ≡ lines_of pieces
  pub all : text ≡ text_with pieces

-- A text without its notes is this output: the notes are whole lines, stand between whole lines of the output, and each begins with
-- a number sign and a blank.
pub record IsWoven (output text : Text) : Type 0 where
  pub lines : Text
  pub woven : Text
  pub rest : Text
  pub notes : HasNotes lines woven
  pub without : output ≡ lines ++ rest
  pub all : text ≡ woven ++ rest
