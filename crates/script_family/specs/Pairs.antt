-- Two parts of which each script takes one of both, by their rows.
use Rattle.std.specs.Prelude.{ℕ, ◌+◌, ◌-◌, ◌*◌, ◌<◌, ◌≤◌, ◌≡◌, Bool, true, false, length}
use Rattle.script_family.specs.declared.part.Part.{Part}
use Rattle.script_family.specs.declared.pairs.Pair.{Pair}
use Rattle.script_family.specs.declared.pairs.Place.{Place}
use Rattle.script_family.specs.Counts.{ways, sums}
use Rattle.script_family.specs.Parts.{row_at}

-- in how many ways a script of k lines goes together with another, to n lines in all
abbrev pub times : Bool → ℕ → ℕ → ℕ
times true n k = ways n k
times false n k = 1

abbrev pub count_of : Part → ℕ → ℕ
count_of part n = row_at part.least part.row.items n

-- how many scripts of n lines have k of the first, by the rows
abbrev pub term : Pair → ℕ → ℕ → ℕ
term p n k = count_of p.first.now k * count_of p.second.now (n - k) * times p.woven n k

-- what a script of a part has at the most, and that it has one
pub record IsSmall (part : Part) : Type 0 where
  pub few : part.least + length part.row.items ≤ 16777217
  pub some : 0 < length part.row.items

pub record ArePair (p : Pair) : Type 0 where
  pub first : IsSmall p.first.now
  pub second : IsSmall p.second.now

abbrev pub HasTable : Pair → ℕ → Type 0
HasTable p n = p.woven ≡ true → n < p.ways.now

-- this place has this number
pub record IsPlace (p : Pair) (n number : ℕ) (place : Place) : Type 0 where
  pub inside : place.lines ≤ n
  pub first : place.first < count_of p.first.now place.lines
  pub second : place.second < count_of p.second.now (n - place.lines)
  pub way : place.way < times p.woven n place.lines
  pub sum : sums (term p n) place.lines
      + (place.first * (count_of p.second.now (n - place.lines) * times p.woven n place.lines) + (place.second * times p.woven n place.lines + place.way)) ≡ number
