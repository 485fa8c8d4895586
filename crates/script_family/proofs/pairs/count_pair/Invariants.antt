use Rattle.std.proofs.Common.{◌≡◌}
use Rattle.script_family.specs.Counts.{sums, capped}
use Rattle.script_family.specs.Pairs.{term}
use Rattle.script_family.proofs.pairs.count_pair.Given as goal

abbrev pub invariant-loop-k : goal.invariant-loop-k
invariant-loop-k l = l.sum ≡ capped (sums (term l.pair l.n) l.k)
