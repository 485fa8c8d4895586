-- What a tally of runs says: how many runs there are; of each expectation, and of each kind of ending, how many runs have it and which first.
use Rattle.std.specs.Prelude.{◌≡◌, ℕ, ◌^◌, ◌-◌, ◌≤◌, ◌<◌, min, Bool, false, List, [], ◌∷◌, length, map, Option, All, Any, Contains, slice_get, unwrap_or, MatchOption}
use Rattle.std.specs.List.{filter}
use Rattle.std.specs.List.Sorted.{IsPermutation}
use Rattle.std.specs.Str.{bytes_eq}
use Rattle.std.specs.Ordering.{nat_cmp}
use Rattle.std.specs.Cmp.Lexicographic.{slice_cmp}
use Rattle.std.specs.FinMap.{FinMap, get}
use Rattle.ending_tally.specs.declared.tally.Mark.{Mark}

-- What one run came to.
pub record Run : Type 0 where
  -- the number of its script
  pub number : ℕ
  -- for each expectation, whether the run breaks it
  pub broken : List Bool
  -- what makes its ending one with other endings: the plain form, or the text
  pub kind : List ℕ
  -- the text of its ending
  pub text : List ℕ

-- What is told of an ending: the runs that came to it, and the text of the first of them.
pub record Ended : Type 0 where
  pub mark : Mark
  pub text : List ℕ

-- What a tally tells: of how many runs it is, for each expectation the runs that break it, and under each kind the ending.
pub record Told : Type 0 where
  pub scripts : ℕ
  pub broken : List Mark
  pub endings : FinMap (slice_cmp nat_cmp) Ended

-- counts are told up to 2^64 - 1, which stands for all from there on
abbrev pub capped : ℕ → ℕ
capped n = min n (2 ^ 64 - 1)

-- whether the expectation of a place is broken
abbrev pub is_broken_at : List Bool → ℕ → Bool
is_broken_at broken place = unwrap_or (slice_get broken place) false

abbrev pub breaks : ℕ → Run → Bool
breaks place run = is_broken_at run.broken place

abbrev pub came_to : List ℕ → Run → Bool
came_to kind run = bytes_eq kind run.kind

-- the least of these numbers; 0 stands where there is none
abbrev pub IsLeast : List ℕ → ℕ → Type 0
IsLeast [] least = least ≡ 0
IsLeast (n ∷ ns) least = Contains (n ∷ ns) least × All (λ m. least ≤ m) (n ∷ ns)

-- how many runs these are, and the least of their numbers
pub record IsMark (runs : List Run) (mark : Mark) : Type 0 where
  pub scripts : mark.scripts ≡ capped (length runs)
  pub first : IsLeast (map (λ run. run.number) runs) mark.first

-- what is told of the ending of these runs, which are all that came to one kind: nothing where there is none; else how many they are, the least number, and the text of the run of that number
abbrev pub IsEnded : List Run → Option Ended → Type 0
IsEnded runs told = MatchOption told (runs ≡ []) (λ ended. IsMark runs ended.mark × Any (λ run. (run.number ≡ ended.mark.first) × (run.text ≡ ended.text)) runs)

abbrev pub no_mark : Mark
no_mark = record { scripts = 0; first = 0 }

abbrev pub mark_at : List Mark → ℕ → Mark
mark_at marks place = unwrap_or (slice_get marks place) no_mark

-- A tally tells of these runs, held against so many expectations: how many runs there are; for each expectation those that break it; and under each kind of ending those that came to it.
pub record IsTally (few : ℕ) (runs : List Run) (told : Told) : Type 0 where
  pub scripts : told.scripts ≡ capped (length runs)
  pub expectations : length told.broken ≡ few
  pub broken : (place : ℕ) → place < few → IsMark (filter (breaks place) runs) (mark_at told.broken place)
  pub endings : (kind : List ℕ) → IsEnded (filter (came_to kind) runs) (get told.endings kind)

-- runs of one number are one, as they are where a run is what the script of its number comes to
abbrev pub AreOfScripts : List Run → Type 0
AreOfScripts runs = (a b : Run) → Contains runs a → Contains runs b → a.number ≡ b.number → a ≡ b

-- laws ------------------------------------------------------------------------

-- the order of the runs does not matter
abbrev pub OrderDoesNotMatter : Type 0
OrderDoesNotMatter = (few : ℕ) (runs others : List Run) (told : Told) → IsPermutation runs others → IsTally few runs told → IsTally few others told

-- runs have one tally
abbrev pub OneTally : Type 0
OneTally = (few : ℕ) (runs : List Run) (told other : Told) → AreOfScripts runs → IsTally few runs told → IsTally few runs other → told ≡ other
