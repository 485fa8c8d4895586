use Rattle.std.proofs.Common.{◌≡◌, map, take, Some}
use Rattle.explore_report.specs.Fronts.{edges_of, walk}
use Rattle.explore_report.proofs.fronts.Fronts.longest.Given as goal

abbrev pub invariant-loop-at : goal.invariant-loop-at
invariant-loop-at l = walk (edges_of l.self.longer) 0 (take l.at (map (λ line. line.now) l.lines)) ≡ Some l.front
