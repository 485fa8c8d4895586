-- With what a script of a part begins, by its number.
use Rattle.std.specs.Prelude.{ℕ, suc, ◌+◌, ◌-◌, ◌^◌, ◌<◌, ◌≤◌, ◌≡◌, List, [], ◌∷◌, ◌++◌, length, get_or}
use Rattle.script_family.specs.declared.parts.Step.{Step}
use Rattle.script_family.specs.declared.parts.Step.TheVariants as steps
use Rattle.script_family.specs.Families.{Family, Silent, Says, Followed, Chosen, Woven, patterns, woven}
use Rattle.script_family.specs.Counts.{ways, count}
use Rattle.script_family.specs.Parts.{script_at}

-- what a contract sees of the parts: their families, and how many rows Pascal's table has
pub record Shapes : Type 0 where
  pub families : List Family
  pub rows : ℕ

abbrev pub shape : Shapes → ℕ → Family
shape s i = get_or s.families i Silent

-- how much there is to do for a script of a family
abbrev pub size : Family → ℕ
size Silent = 1
size (Says line) = 1
size (Followed a b) = suc (size a + size b)
size (Chosen a b) = suc (size a + size b)
size (Woven a b) = suc (suc (size a + size b))

-- a part has a script of so many lines with this number
pub record Has (s : Shapes) (part lines number : ℕ) : Type 0 where
  pub there : part < length s.families
  pub below : number < count (shape s part) lines
  pub exact : number < 2 ^ 64 - 1

-- a script is one of the first part and one of the second, woven in this way or one behind the other
pub record IsBoth (s : Shapes) (lines first first_lines first_number second second_number : ℕ) : Type 0 where
  pub inside : first_lines ≤ lines
  pub first_has : Has s first first_lines first_number
  pub second_has : Has s second (lines - first_lines) second_number

abbrev pub Begins : Shapes → ℕ → ℕ → ℕ → Step → Type 0
Begins s part lines number steps.Nothing = script_at (shape s part) lines number ≡ []
Begins s part lines number (steps.Line at) = script_at (shape s part) lines number ≡ at ∷ []
Begins s part lines number (steps.One other rest) =
    Has s other lines rest × (script_at (shape s part) lines number ≡ script_at (shape s other) lines rest) × (size (shape s other) < size (shape s part))
Begins s part lines number (steps.Both first second place) =
    IsBoth s lines first place.lines place.first second place.second
    × (script_at (shape s part) lines number
    ≡ script_at (shape s first) place.lines place.first ++ script_at (shape s second) (lines - place.lines) place.second)
    × (size (shape s first) + size (shape s second) < size (shape s part))
Begins s part lines number (steps.Woven first second place) =
    IsBoth s lines first place.lines place.first second place.second
    × (place.way < ways lines place.lines)
    × (place.way < 2 ^ 64 - 1)
    × (lines < s.rows)
    × (script_at (shape s part) lines number
    ≡ woven (get_or (patterns lines place.lines) place.way []) (script_at (shape s first) place.lines place.first) (script_at (shape s second) (lines - place.lines) place.second))
    × (suc (size (shape s first) + size (shape s second)) < size (shape s part))
