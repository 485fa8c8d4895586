use Rattle.std.proofs.Common.{◌≡◌, ◌++◌, take}
use Rattle.explore_report.specs.Reports.{hexadecimal}
use Rattle.explore_report.proofs.mark.push_digest.Given as goal

abbrev pub invariant-loop-byte : goal.invariant-loop-byte
invariant-loop-byte l = l.out.items ≡ l.fn.out.items ++ hexadecimal (take l.byte-index l.digest)
