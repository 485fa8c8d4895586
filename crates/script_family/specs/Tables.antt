-- Pascal's table.
use Rattle.std.specs.Prelude.{ℕ, ◌≡◌, ◌<◌, List, [], length, get_or}
use Rattle.script_family.specs.Counts.{ways, capped}

-- a row for n places has the ways to choose k of them
abbrev pub IsWaysRow : ℕ → List ℕ → Type 0
IsWaysRow n row = (k : ℕ) → get_or row k 0 ≡ capped (ways n k)

abbrev pub IsPascal : List (List ℕ) → Type 0
IsPascal rows = (n : ℕ) → n < length rows → IsWaysRow n (get_or rows n [])
