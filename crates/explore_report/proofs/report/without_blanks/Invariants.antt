use Rattle.std.proofs.Common.{◌≡◌, drop}
use Rattle.explore_report.specs.Reports.{without_blanks}
use Rattle.explore_report.proofs.report.without_blanks.Given as goal

abbrev pub invariant-loop-at : goal.invariant-loop-at
invariant-loop-at l = without_blanks (drop l.at l.line) ≡ without_blanks l.line
