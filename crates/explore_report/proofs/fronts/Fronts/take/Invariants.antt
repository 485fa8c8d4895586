use Rattle.std.proofs.Common.{◌≡◌, ℕ, List, length, map}
use Rattle.explore_report.specs.Fronts.{AreFrontsOf, Growing, edges_of}
use Rattle.explore_report.proofs.fronts.Fronts.take.Given as goal

abbrev pub invariant-loop-place : goal.invariant-loop-place
invariant-loop-place l =
    (scripts : List (List (List ℕ))) → length scripts ≡ l.at → AreFrontsOf scripts l.initial.self
    → Growing (edges_of l.self.longer) l.self.first.items scripts (map (λ line. line.now) l.lines) l.front l.place
