use Rattle.std.proofs.Common.{◌≡◌, ◌+◌}
use Rattle.script_family.specs.Counts.{sums}
use Rattle.script_family.specs.Pairs.{term}
use Rattle.script_family.proofs.pairs.find_lines.Given as goal

abbrev pub invariant-loop-k : goal.invariant-loop-k
invariant-loop-k l = sums (term l.pair l.n) l.k + l.rest ≡ l.number
