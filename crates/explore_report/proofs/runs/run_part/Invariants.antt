use Rattle.std.proofs.Common.{◌≡◌, ℕ, ◌-◌, ◌%◌, ◌<◌, List, min}
use Rattle.script_family.specs.Laws.{part_of}
use Rattle.ending_tally.specs.Steps.{told}
use Rattle.explore_report.specs.Expectations.{HasSeen}
use Rattle.explore_report.specs.Scripts.{IsTallyOf}
use Rattle.explore_report.proofs.runs.run_part.Given as goal

abbrev pub invariant-numbers : goal.invariant-numbers
invariant-numbers g l = record {
  of_part : l.number < l.below → l.number % l.part.of ≡ l.part.number - 1;
  tally : IsTallyOf (g.R.Runs.shows l.initial.runs) l.family l.exploration.expected l.exploration.exact (part_of l.part.of (l.part.number - 1) (min l.number l.below)) (told l.tally);
  seen : (lines : List (List ℕ)) × HasSeen l.exploration.expected lines l.seen;
  same : (other : List ℕ) (lines : List (List ℕ)) (text : List ℕ) → g.R.Runs.shows l.runs other lines text → g.R.Runs.shows l.initial.runs other lines text;
}

abbrev pub decreases-numbers : goal.decreases-numbers
decreases-numbers g l = l.below - l.number
