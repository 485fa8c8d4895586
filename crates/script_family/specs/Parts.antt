-- A family as a list of parts, each behind those that it names.
use Rattle.std.specs.Prelude.{ℕ, suc, ◌+◌, ◌-◌, ◌<◌, ◌≤◌, ◌≡◌, nat_lt, List, [], ◌∷◌, ◌++◌, length, get_or, if◌then◌else◌}
use Rattle.script_family.specs.declared.part.Node.{Node}
use Rattle.script_family.specs.declared.part.Node.TheVariants as nodes
use Rattle.script_family.specs.declared.part.Part.{Part}
use Rattle.script_family.specs.Families.{Family, Silent, Says, Followed, Chosen, Woven, Script, scripts_of, most}
use Rattle.script_family.specs.Counts.{count, capped}

-- what a row of counts says of n lines; it begins at the least number of lines that a script has
abbrev pub row_at : ℕ → List ℕ → ℕ → ℕ
row_at least row n = if nat_lt n least then 0 else get_or row (n - least) 0

-- the script of a number among those of n lines
abbrev pub script_at : Family → ℕ → ℕ → Script
script_at f n r = get_or (scripts_of f n) r []

-- the family of a part, over the families of the parts before it
abbrev pub family_of : List Family → Node → Family
family_of made nodes.Silent = Silent
family_of made (nodes.Line at) = Says at
family_of made (nodes.Followed first second) = Followed (get_or made first Silent) (get_or made second Silent)
family_of made (nodes.Chosen first second) = Chosen (get_or made first Silent) (get_or made second Silent)
family_of made (nodes.Woven first second) = Woven (get_or made first Silent) (get_or made second Silent)

-- the families of all parts, in their order
abbrev pub grown : List Family → List Part → List Family
grown made [] = made
grown made (part ∷ parts) = grown (made ++ family_of made part.node ∷ []) parts

abbrev pub families : List Part → List Family
families parts = grown [] parts

-- what a part names stands before it
abbrev pub NamesBefore : ℕ → Node → Type 0
NamesBefore i nodes.Silent = Unit {0}
NamesBefore i (nodes.Line at) = Unit {0}
NamesBefore i (nodes.Followed first second) = (first < i) × (second < i)
NamesBefore i (nodes.Chosen first second) = (first < i) × (second < i)
NamesBefore i (nodes.Woven first second) = (first < i) × (second < i)

-- Pascal's table has the rows that a part needs which is woven
abbrev pub HasRows : ℕ → ℕ → Node → Type 0
HasRows rows lines nodes.Silent = Unit {0}
HasRows rows lines (nodes.Line at) = Unit {0}
HasRows rows lines (nodes.Followed first second) = Unit {0}
HasRows rows lines (nodes.Chosen first second) = Unit {0}
HasRows rows lines (nodes.Woven first second) = lines < rows

-- a row has the counts of a family, from the least number of lines to the most
pub record IsRow (f : Family) (least : ℕ) (row : List ℕ) : Type 0 where
  pub counts : (n : ℕ) → row_at least row n ≡ capped (count f n)
  pub ends : least + length row ≡ suc (most f)
  pub some : 0 < length row

-- the part at this place
pub record IsPart (made : List Family) (rows i : ℕ) (part : Part) : Type 0 where
  pub names : NamesBefore i part.node
  pub same : get_or made i Silent ≡ family_of made part.node
  pub row : IsRow (get_or made i Silent) part.least part.row.items
  pub few : most (get_or made i Silent) ≤ 16777216
  pub table : HasRows rows (most (get_or made i Silent)) part.node

abbrev pub IsParts : List Family → ℕ → List Part → Type 0
IsParts made rows parts = (i : ℕ) (d : Part) → i < length parts → IsPart made rows i (get_or parts i d)
