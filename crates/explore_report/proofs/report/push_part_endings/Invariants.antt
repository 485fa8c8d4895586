use Rattle.std.proofs.Common.{◌≡◌, ◌++◌, drop, map}
use Rattle.ending_tally.specs.Steps.{ended}
use Rattle.explore_report.specs.Reports.{part_endings}
use Rattle.explore_report.proofs.report.push_part_endings.Given as goal

abbrev pub invariant-loop-at : goal.invariant-loop-at
invariant-loop-at l = l.out.items ++ part_endings l.at (map (λ e. ended e.now) (drop l.at l.endings)) ≡ l.fn.out.items ++ part_endings 0 (map (λ e. ended e.now) l.endings)
