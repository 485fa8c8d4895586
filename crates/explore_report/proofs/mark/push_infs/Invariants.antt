use Rattle.std.proofs.Common.{◌≡◌, ◌++◌, take}
use Rattle.explore_report.specs.Marks.{inf_lines}
use Rattle.explore_report.proofs.mark.push_infs.Given as goal

abbrev pub invariant-loop-digest : goal.invariant-loop-digest
invariant-loop-digest l = l.out.items ≡ l.fn.out.items ++ inf_lines (take l.digest-index l.infs)
