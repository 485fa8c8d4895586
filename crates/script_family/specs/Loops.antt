-- Where the code stands that reads the lines of a text.
use Rattle.std.specs.Prelude.{ℕ, ◌+◌, ◌-◌, ◌<◌, ◌≤◌, ◌≡◌, List, [], length, drop, Option, Some, None}
use Rattle.device_ids.specs.Cuts.{parts}
use Rattle.script_family.specs.declared.error.FamilyError.{FamilyError}
use Rattle.script_family.specs.declared.error.FamilyError.TheVariants.{BadLine, TooLarge, WantOfMemory}
use Rattle.script_family.specs.declared.draft.Draft.{Draft}
use Rattle.script_family.specs.Families.{Family}
use Rattle.script_family.specs.Weights.{line_bytes, most_bytes}
use Rattle.script_family.specs.Reading.{Outcome, gives, bad_line, too_large, read_lines, beginning, Block, finish}
use Rattle.script_family.specs.Drafts.{part_at, standing_of, standing_heavy, standing_most, IsDraft}

-- what the lines of a text are
abbrev pub all_lines : List ℕ → Outcome
all_lines text = read_lines 0 0 (parts 0x0A text) beginning

-- so many lines were read, and this rest is left
pub record AtLine (text rest : List ℕ) (passed : ℕ) (d : Draft) : Type 0 where
  pub place : drop (length text - length rest) text ≡ rest
  pub few : passed + length rest ≤ length text
  pub named : IsDraft d
  pub lines : standing_most (standing_of d) ≤ passed
  pub bytes : standing_heavy (line_bytes text) (standing_of d) + length rest ≤ length text
  pub same : read_lines passed (length text - length rest) (parts 0x0A rest) (standing_of d) ≡ all_lines text

-- the draft of a whole text
pub record IsDraftOf (text : List ℕ) (d : Draft) : Type 0 where
  pub there : d.current < length d.parts.families
  pub whole : all_lines text ≡ gives (part_at d.parts.families d.current)
  pub bytes : most_bytes text (part_at d.parts.families d.current) ≤ length text

-- what a refusal says of the lines of a text
abbrev pub RefusesLines : FamilyError → List ℕ → Type 0
RefusesLines (BadLine line) text = all_lines text ≡ bad_line line
RefusesLines TooLarge text = all_lines text ≡ too_large
RefusesLines WantOfMemory text = Unit {0}

-- the line that opened the innermost block, if one is open
abbrev pub Opened : Option ℕ → List Block → Type 0
Opened None blocks = blocks ≡ []
Opened (Some line) blocks = (now : Family) → finish now blocks ≡ bad_line line
