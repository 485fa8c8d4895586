-- A family as it is read in code, as what was read so far.
use Rattle.std.specs.Prelude.{ℕ, ◌+◌, ◌<◌, ◌≡◌, true, false, List, [], ◌∷◌, ◌++◌, length, get_or, map, reverse, Option, Some, None}
use Rattle.std.specs.Option.{option_map}
use Rattle.script_family.specs.declared.error.FamilyError.{FamilyError}
use Rattle.script_family.specs.declared.error.FamilyError.TheVariants.{BadLine, TooLarge, WantOfMemory}
use Rattle.script_family.specs.declared.draft.OpenBlock.{OpenBlock}
use Rattle.script_family.specs.declared.draft.Draft.{Draft}
use Rattle.script_family.specs.Families.{Family, Silent}
use Rattle.script_family.specs.Weights.{heaviest}
use Rattle.script_family.specs.Reading.{Block, Standing, bad_line, too_large, joined, is_small, Turn, goes, stops}

-- the family of a part
abbrev pub part_at : List Family → ℕ → Family
part_at made i = get_or made i Silent

abbrev pub block_of : List Family → OpenBlock → Block
block_of made b = record { kind = b.kind; line = b.line; before = part_at made b.before; over = option_map (part_at made) b.over }

-- the innermost block first
abbrev pub standing : List Family → ℕ → List OpenBlock → Standing
standing made now blocks = record { now = part_at made now; blocks = map (block_of made) blocks }

abbrev pub standing_of : Draft → Standing
standing_of d = standing d.parts.families d.current (reverse d.blocks.items)

-- what a draft names is there
abbrev pub IfIn : ℕ → Option ℕ → Type 0
IfIn n None = Unit {0}
IfIn n (Some i) = i < n

abbrev pub IsIn : ℕ → OpenBlock → Type 0
IsIn n b = (b.before < n) × IfIn n b.over

abbrev pub AreIn : ℕ → List OpenBlock → Type 0
AreIn n [] = Unit {0}
AreIn n (b ∷ blocks) = IsIn n b × AreIn n blocks

pub record AreNamed (made : List Family) (now : ℕ) (blocks : List OpenBlock) : Type 0 where
  pub now_in : now < length made
  pub blocks_in : AreIn (length made) blocks

abbrev pub IsDraft : Draft → Type 0
IsDraft d = AreNamed d.parts.families d.current (reverse d.blocks.items)

-- the most that the lines of a script of what was read so far weigh
abbrev pub if_heavy : (ℕ → ℕ) → Option Family → ℕ
if_heavy weight None = 0
if_heavy weight (Some f) = heaviest weight f

abbrev pub blocks_heavy : (ℕ → ℕ) → List Block → ℕ
blocks_heavy weight [] = 0
blocks_heavy weight (b ∷ blocks) = heaviest weight b.before + if_heavy weight b.over + blocks_heavy weight blocks

abbrev pub standing_heavy : (ℕ → ℕ) → Standing → ℕ
standing_heavy weight s = heaviest weight s.now + blocks_heavy weight s.blocks

-- the most lines of it
abbrev pub standing_most : Standing → ℕ
standing_most s = standing_heavy (λ at. 1) s

-- what a refusal of a line says
abbrev pub Stopped : FamilyError → Turn → Type 0
Stopped (BadLine line) turn = turn ≡ stops (bad_line line)
Stopped TooLarge turn = turn ≡ stops too_large
Stopped WantOfMemory turn = Unit {0}

-- a line was taken: the draft stands where the turn goes
pub record Went (turn : Turn) (new : Draft) : Type 0 where
  pub there : turn ≡ goes (standing_of new)
  pub named : IsDraft new

-- the parts of a block were put together in the part i, and nothing else changed but that parts were added
pub record Joined (old new : Draft) (block : OpenBlock) (i : ℕ) : Type 0 where
  pub more : List Family
  pub grown : new.parts.families ≡ old.parts.families ++ more
  pub now_kept : new.current ≡ old.current
  pub blocks_kept : new.blocks.items ≡ old.blocks.items
  pub there : i < length new.parts.families
  pub same : part_at new.parts.families i
      ≡ joined block.kind (option_map (part_at old.parts.families) block.over) (part_at old.parts.families old.current)
  pub small : is_small block.kind (option_map (part_at old.parts.families) block.over) (part_at old.parts.families old.current) ≡ true

-- too many lines would be woven
abbrev pub NotJoined : FamilyError → Draft → OpenBlock → Type 0
NotJoined (BadLine line) old block = ⊥
NotJoined TooLarge old block =
    is_small block.kind (option_map (part_at old.parts.families) block.over) (part_at old.parts.families old.current) ≡ false
NotJoined WantOfMemory old block = Unit {0}
