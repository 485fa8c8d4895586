-- A family as its callers see it, and what a reading of a text answers.
use Rattle.std.specs.Prelude.{ℕ, ◌<◌, ◌≤◌, ◌≡◌, List, length, get_or}
use Rattle.script_family.specs.declared.error.FamilyError.{FamilyError}
use Rattle.script_family.specs.declared.error.FamilyError.TheVariants.{BadLine, TooLarge, WantOfMemory}
use Rattle.script_family.specs.Families.{Family, Silent}
use Rattle.script_family.specs.Counts.{total, capped}
use Rattle.script_family.specs.Weights.{most_bytes}
use Rattle.script_family.specs.Reading.{gives, bad_line, too_large, outcome_of}
use Rattle.script_family.specs.Texts.{ended}

pub record Told : Type 0 where
  -- the text, with the line feed of its last line
  pub text : List ℕ
  pub family : Family

-- what a refusal says of a text
abbrev pub Refuses : FamilyError → List ℕ → Type 0
Refuses (BadLine line) text = outcome_of text ≡ bad_line line
Refuses TooLarge text = outcome_of text ≡ too_large
Refuses WantOfMemory text = Unit {0}

-- the family of this text
abbrev pub IsRead : Told → List ℕ → Type 0
IsRead told text = (outcome_of text ≡ gives told.family) × (told.text ≡ ended text)

-- what is kept of a family: one of its parts is the whole, with its count, and no script of it is longer than a text may be
pub record IsWhole (text : List ℕ) (made : List Family) (root count : ℕ) : Type 0 where
  pub there : root < length made
  pub counted : count ≡ capped (total (get_or made root Silent))
  pub bytes : most_bytes text (get_or made root Silent) ≤ 16777216
