-- The answer that a line tells by its last letter, and how many lines two texts begin with alike.
use Rattle.std.specs.Prelude.{ℕ, ◌+◌, ◌==◌, ◌||◌, [], ◌∷◌, Option, Some, None, if◌then◌else◌}
use Rattle.pnp_labels.specs.Texts.{Text}
use Rattle.pnp_labels.specs.declared.words.Answer.{Answer}
use Rattle.pnp_labels.specs.declared.words.Answer.TheVariants.{Ok, Fail, Pend}

-- the words are ok, fail, pend and violation
abbrev pub answer_by : ℕ → Answer
answer_by letter = if letter == 108 || letter == 110 then Fail else (if letter == 100 then Pend else Ok)

-- what the first line tells, behind this letter; none where no LF is left
abbrev pub answer_from : ℕ → Text → Option Answer
answer_from letter [] = None
answer_from letter (byte ∷ bytes) = if byte == 10 then Some (answer_by letter) else answer_from byte bytes

abbrev pub answer_of : Text → Option Answer
answer_of rest = answer_from 0 rest

-- one more for an LF
abbrev pub counted : ℕ → ℕ → ℕ
counted byte lines = if byte == 10 then lines + 1 else lines

-- the LFs in the front that both have
abbrev pub lines_alike : Text → Text → ℕ
lines_alike [] rest = 0
lines_alike (byte ∷ due) [] = 0
lines_alike (byte ∷ due) (own ∷ rest) = if byte == own then counted byte (lines_alike due rest) else 0
