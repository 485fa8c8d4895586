-- Which family a text is: its lines from the first to the last, with the blocks that are open.
use Rattle.std.specs.Prelude.{ℕ, ◌+◌, Bool, true, false, nat_le, List, [], ◌∷◌, length, Option, Some, None, if◌then◌else◌}
use Rattle.device_ids.specs.Cuts.{parts}
use Rattle.script_family.specs.declared.sort.BlockKind.{BlockKind}
use Rattle.script_family.specs.declared.sort.BlockKind.TheVariants as kinds
use Rattle.script_family.specs.declared.sort.LineSort.{LineSort}
use Rattle.script_family.specs.declared.sort.LineSort.TheVariants as sorts
use Rattle.script_family.specs.Families.{Family, Silent, Says, Followed, Chosen, Woven, most}
use Rattle.script_family.specs.Lines.{sort_of}
use Rattle.script_family.specs.Texts.{ended}

-- a block that is open
pub record Block : Type 0 where
  pub kind : BlockKind
  -- the line that opened it
  pub line : ℕ
  -- what stands before it
  pub before : Family
  -- its parts that are over, put together
  pub over : Option Family

-- what was read so far: the part that is being read, and the blocks around it, the innermost first
pub record Standing : Type 0 where
  pub now : Family
  pub blocks : List Block

-- what a text is
pub data Outcome : Type 0 where
  gives : Family → Outcome
  bad_line : (line : ℕ) → Outcome
  too_large : Outcome

abbrev pub same_kind : BlockKind → BlockKind → Bool
same_kind kinds.Either kinds.Either = true
same_kind kinds.Either kinds.Together = false
same_kind kinds.Together kinds.Either = false
same_kind kinds.Together kinds.Together = true

-- the parts of a block put together, from the left
abbrev pub joined : BlockKind → Option Family → Family → Family
joined kind None part = part
joined kinds.Either (Some over) part = Chosen over part
joined kinds.Together (Some over) part = Woven over part

-- at most 1,024 lines are woven
abbrev pub is_small : BlockKind → Option Family → Family → Bool
is_small kind None part = true
is_small kinds.Either (Some over) part = true
is_small kinds.Together (Some over) part = nat_le (most over + most part) 1024

-- a line was read: on from there, or the text has its outcome
pub data Turn : Type 0 where
  goes : Standing → Turn
  stops : Outcome → Turn

-- the part of the innermost block is over, and the next begins
abbrev pub next_part : BlockKind → ℕ → Family → List Block → Turn
next_part kind number now [] = stops (bad_line number)
next_part kind number now (b ∷ blocks) =
    if same_kind kind b.kind
    then (if is_small b.kind b.over now
    then goes (record { now = Silent; blocks = record b { over = Some (joined b.kind b.over now) } ∷ blocks })
    else stops too_large)
    else stops (bad_line number)

-- the innermost block is over, and follows what stood before it
abbrev pub closed : ℕ → Family → List Block → Turn
closed number now [] = stops (bad_line number)
closed number now (b ∷ blocks) =
    if is_small b.kind b.over now then goes (record { now = Followed b.before (joined b.kind b.over now); blocks = blocks }) else stops too_large

-- a line of this number, that begins at this place
abbrev pub turn : LineSort → ℕ → ℕ → Standing → Turn
turn sorts.Nothing number at s = goes s
turn sorts.Said number at s = goes (record { now = Followed s.now (Says at); blocks = s.blocks })
turn (sorts.Opens kind) number at s =
    goes (record { now = Silent; blocks = record { kind = kind; line = number; before = s.now; over = None } ∷ s.blocks })
turn (sorts.Parts kind) number at s = next_part kind number s.now s.blocks
turn sorts.Closes number at s = closed number s.now s.blocks
turn sorts.Bad number at s = stops (bad_line number)

-- at the end no block is open; where one is, the line that opened the innermost one is bad
abbrev pub finish : Family → List Block → Outcome
finish now [] = gives now
finish now (b ∷ blocks) = bad_line b.line

abbrev pub onward : Turn → (Standing → Outcome) → Outcome
onward (goes s) rest = rest s
onward (stops outcome) rest = outcome

-- after so many lines, at this place; behind the last line feed nothing is left
abbrev pub read_lines : ℕ → ℕ → List (List ℕ) → Standing → Outcome
read_lines passed at [] s = finish s.now s.blocks
read_lines passed at (rest ∷ []) s = finish s.now s.blocks
read_lines passed at (line ∷ next ∷ lines) s =
    onward (turn (sort_of line) (passed + 1) at s) (read_lines (passed + 1) (at + length line + 1) (next ∷ lines))

abbrev pub beginning : Standing
beginning = record { now = Silent; blocks = [] }

-- which family a text is, or its first bad line; with its last line feed it has at most 16,777,216 bytes
abbrev pub outcome_of : List ℕ → Outcome
outcome_of text = if nat_le (length (ended text)) 16777216 then read_lines 0 0 (parts 0x0A (ended text)) beginning else too_large
