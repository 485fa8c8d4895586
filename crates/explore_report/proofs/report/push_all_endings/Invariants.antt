use Rattle.std.proofs.Common.{◌≡◌, ◌++◌, [], take, drop, map}
use Rattle.ending_tally.specs.Steps.{ended}
use Rattle.explore_report.specs.Fronts.{AreFrontsOf}
use Rattle.explore_report.specs.Reports.{endings_text, scripts_of}
use Rattle.explore_report.proofs.report.push_all_endings.Given as goal

abbrev pub invariant-loop-at : goal.invariant-loop-at
invariant-loop-at l = record {
  fronts : AreFrontsOf (scripts_of l.family (map (λ e. ended e.now) (take l.at l.endings))) l.fronts;
  text : l.out.items ++ endings_text l.family (map (λ e. ended e.now) (take l.at l.endings)) (map (λ e. ended e.now) (drop l.at l.endings))
      ≡ l.fn.out.items ++ endings_text l.family [] (map (λ e. ended e.now) l.endings);
}
