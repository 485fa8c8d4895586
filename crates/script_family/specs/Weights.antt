-- How long the text of a script of a family is at the most.
use Rattle.std.specs.Prelude.{ℕ, ◌+◌, List, length, max}
use Rattle.script_family.specs.Families.{Family, Silent, Says, Followed, Chosen, Woven}
use Rattle.script_family.specs.Texts.{line_at}

-- the most that the lines of a script weigh together
abbrev pub heaviest : (ℕ → ℕ) → Family → ℕ
heaviest weight Silent = 0
heaviest weight (Says line) = weight line
heaviest weight (Followed a b) = heaviest weight a + heaviest weight b
heaviest weight (Chosen a b) = max (heaviest weight a) (heaviest weight b)
heaviest weight (Woven a b) = heaviest weight a + heaviest weight b

-- the bytes of a line with its line feed
abbrev pub line_bytes : List ℕ → ℕ → ℕ
line_bytes text at = length (line_at text at) + 1

-- the most bytes of the text of a script
abbrev pub most_bytes : List ℕ → Family → ℕ
most_bytes text f = heaviest (line_bytes text) f
