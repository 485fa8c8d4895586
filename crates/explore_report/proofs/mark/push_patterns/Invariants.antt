use Rattle.std.proofs.Common.{◌≡◌, ◌++◌, take}
use Rattle.explore_report.specs.Marks.{pattern_lines}
use Rattle.explore_report.proofs.mark.push_patterns.Given as goal

abbrev pub invariant-loop-at : goal.invariant-loop-at
invariant-loop-at l = l.out.items ≡ l.fn.out.items ++ pattern_lines l.word (take l.at l.patterns)
