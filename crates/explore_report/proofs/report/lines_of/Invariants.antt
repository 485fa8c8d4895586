use Rattle.std.proofs.Common.{◌≡◌, map, take}
use Rattle.explore_report.specs.Reports.{trimmed}
use Rattle.explore_report.proofs.report.lines_of.Given as goal

abbrev pub invariant-loop-at : goal.invariant-loop-at
invariant-loop-at l = map (λ line. line.now) l.lines.items ≡ map trimmed (map (λ line. line.now) (take l.at l.parts.items))
