use Rattle.std.proofs.Common.{◌≡◌, ◌++◌, map, not, take}
use Rattle.explore_report.proofs.expected.Seen.broken.Given as goal

abbrev pub invariant-loop-fitted : goal.invariant-loop-fitted
invariant-loop-fitted l = l.broken.items ≡ l.self.never.items ++ map not (take l.fitted-index l.fitted-items)
