use Rattle.std.proofs.Common.{◌≡◌, length}
use Rattle.std.specs.Prelude.{reverse}
use Rattle.explore_report.specs.Reports.{without_blanks}
use Rattle.explore_report.proofs.report.without_end.Given as goal

abbrev pub invariant-bytes : goal.invariant-bytes
invariant-bytes l = without_blanks (reverse l.rest) ≡ without_blanks (reverse l.line)

abbrev pub decreases-bytes : goal.decreases-bytes
decreases-bytes l = length l.rest
