use Rattle.std.proofs.Common.{◌≡◌, ◌++◌, drop}
use Rattle.explore_report.specs.Reports.{broken_lines}
use Rattle.explore_report.proofs.report.push_all_broken.Given as goal

abbrev pub invariant-loop-at : goal.invariant-loop-at
invariant-loop-at l = l.out.items ++ broken_lines l.word l.at (drop l.at l.broken) ≡ l.fn.out.items ++ broken_lines l.word 0 l.broken
