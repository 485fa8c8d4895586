-- Parts that are put together.
use Rattle.std.specs.Prelude.{ℕ, ◌-◌, ◌≡◌, false, true, Bool, List, [], ◌∷◌, ◌++◌, length, map, get_or, set, Option, IsPermutation}
use Rattle.std.specs.List.{flat_map, AllByRecursion}
use Rattle.pnp_io.specs.Outside.{Holds}
use Rattle.script_family.specs.Laws.{below}
use Rattle.ending_tally.specs.Tallies.{Run, Told, IsTally}
use Rattle.explore_report.specs.declared.expected.Expected.{Expected}
use Rattle.explore_report.specs.declared.parts.Part.{Part}
use Rattle.explore_report.specs.Expectations.{few_of}
use Rattle.explore_report.specs.Scripts.{IsPart}
use Rattle.explore_report.specs.Reports.{part_text}

-- a part, and what was read of it
pub record ReadPart : Type 0 where
  pub part : Part
  pub told : Told

-- where the contents of files are told, the file of this name holds just what is written of what was read of a part
pub record IsReadFrom (contents : Option (List ℕ → Option (List ℕ))) (mark : List ℕ) (count never : ℕ) (name : List ℕ) (read : ReadPart) : Type 0 where
  pub part : IsPart read.part
  pub written : Holds contents name (part_text read.part mark count never read.told)

-- one part for each of these names
abbrev pub AreReadFrom : Option (List ℕ → Option (List ℕ)) → List ℕ → ℕ → ℕ → List (List ℕ) → List ReadPart → Type 0
AreReadFrom contents mark count never [] [] = Unit {0}
AreReadFrom contents mark count never [] (read ∷ reads) = ⊥
AreReadFrom contents mark count never (name ∷ names) [] = ⊥
AreReadFrom contents mark count never (name ∷ names) (read ∷ reads) = IsReadFrom contents mark count never name read × AreReadFrom contents mark count never names reads

-- these are all parts of so many, each once, in any order
pub record AreAllParts (parts : List Part) (many : ℕ) : Type 0 where
  pub of : AllByRecursion (λ (part : Part). part.of ≡ many) parts
  pub each : IsPermutation (map (λ (part : Part). part.number - 1) parts) (below many)

-- each of these tallies is one of some runs
abbrev pub AreTallies : ℕ → List (List Run) → List Told → Type 0
AreTallies few [] [] = Unit {0}
AreTallies few [] (told ∷ tolds) = ⊥
AreTallies few (runs ∷ more) [] = ⊥
AreTallies few (runs ∷ more) (told ∷ tolds) = IsTally few runs told × AreTallies few more tolds

-- a tally of all runs of which these are tallies
abbrev pub IsMergedOf : ℕ → List Told → Told → Type 0
IsMergedOf few tolds told = (runs : List (List Run)) → AreTallies few runs tolds → IsTally few (flat_map (λ r. r) runs) told

-- the parts of these names were read, are all parts, and were put together
pub record AreMerged (contents : Option (List ℕ → Option (List ℕ))) (mark : List ℕ) (count : ℕ) (expected : Expected) (names : List (List ℕ)) (told : Told) : Type 0 where
  pub reads : List ReadPart
  pub are : AreReadFrom contents mark count (length expected.never.items) names reads
  pub all : AreAllParts (map (λ (r : ReadPart). r.part) reads) (length names)
  pub merged : IsMergedOf (few_of expected) (map (λ (r : ReadPart). r.told) reads) told

-- ---- one after another

-- a part came that had not come before
pub record HasCome (part : Part) (old new : List Bool) : Type 0 where
  pub of : part.of ≡ length old
  pub first : get_or old (part.number - 1) true ≡ false
  pub noted : new ≡ set old (part.number - 1) true

-- the part of a name was read, and put to the rest
pub record HasMerged (contents : Option (List ℕ → Option (List ℕ))) (mark : List ℕ) (count never : ℕ) (name : List ℕ) (before after : List Bool) (old new : Told) : Type 0 where
  pub read : ReadPart
  pub from : IsReadFrom contents mark count never name read
  pub come : HasCome read.part before after
  pub merged : (few : ℕ) (runs others : List Run) → IsTally few runs old → IsTally few others read.told → IsTally few (runs ++ others) new
