-- What is proved of every family.
use Rattle.std.specs.Prelude.{ℕ, zero, suc, ◌%◌, ◌<◌, ◌≤◌, ◌≡◌, ◌==◌, ◌↔◌, List, [], ◌∷◌, ◌++◌, length, get_or, IsPermutation}
use Rattle.std.specs.List.{Contains, filter, flat_map}
use Rattle.script_family.specs.Families.{Family, Script, scripts_of, scripts, IsScript}
use Rattle.script_family.specs.Counts.{count, total}

-- a script of the family has a number, and each number is that of a script of the family
abbrev pub EachScriptHasANumber : Type 0
EachScriptHasANumber = (f : Family) (s : Script) → IsScript f s ↔ Contains (scripts f) s

-- the counts are the lengths of the lists
abbrev pub CountsAreLengths : Type 0
CountsAreLengths = ((f : Family) (n : ℕ) → length (scripts_of f n) ≡ count f n) × ((f : Family) → length (scripts f) ≡ total f)

-- a greater number has no fewer lines
abbrev pub ShorterFirst : Type 0
ShorterFirst = (f : Family) (i j : ℕ) → i ≤ j → j < length (scripts f) → length (get_or (scripts f) i []) ≤ length (get_or (scripts f) j [])

-- the numbers below n, in order
abbrev pub below : ℕ → List ℕ
below zero = []
below (suc n) = below n ++ n ∷ []

-- each number below n that is part, part + parts, ..
abbrev pub part_of : ℕ → ℕ → ℕ → List ℕ
part_of parts part n = filter (λ k. k % parts == part) (below n)

-- the parts together are all numbers, each once
abbrev pub PartsAreTheWhole : Type 0
PartsAreTheWhole = (parts n : ℕ) → 0 < parts → IsPermutation (flat_map (λ part. part_of parts part n) (below parts)) (below n)
