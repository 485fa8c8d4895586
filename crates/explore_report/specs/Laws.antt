-- What holds of all reports.
use Rattle.std.specs.Prelude.{ℕ, ◌≡◌, List, Option}
use Rattle.script_family.specs.Reads.{Told}
use Rattle.explore_report.specs.declared.parts.Exploration.{Exploration}
use Rattle.explore_report.specs.declared.told.Report.{Report}
use Rattle.explore_report.specs.Answers.{TellsWhole, TellsMerged, AreOfRuns}

-- a script has one run
abbrev pub HasOneRun : (List ℕ → List (List ℕ) → List ℕ → Type 0) → Type 0
HasOneRun shows = (script : List ℕ) (lines others : List (List ℕ)) (text other : List ℕ) → shows script lines text → shows script others other → (lines ≡ others) × (text ≡ other)

-- Where parts are what the scripts of their numbers come to, the report on what they are put together to is, byte for byte, the one on the runs of all scripts, and the same is found.
abbrev pub PartsTellTheWhole : (List ℕ → List (List ℕ) → List ℕ → Type 0) → Type 0
PartsTellTheWhole shows =
    (contents : Option (List ℕ → Option (List ℕ))) (family : Told) (e : Exploration) (n : ℕ) (mark : List ℕ) (names : List (List ℕ)) (merged whole : Report)
    → (tells : TellsMerged shows contents family e n mark names merged) → AreOfRuns shows family e n tells.reads → TellsWhole shows family e n whole
    → (merged.text.items ≡ whole.text.items) × (merged.found ≡ whole.found)
