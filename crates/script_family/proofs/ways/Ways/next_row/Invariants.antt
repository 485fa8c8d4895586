use Rattle.std.proofs.Common.{◌+◌}
use Rattle.script_family.proofs.Pascal.{HasWays}
use Rattle.script_family.proofs.ways.Ways.next_row.Given as goal

abbrev pub invariant-loop-k : goal.invariant-loop-k
invariant-loop-k l = HasWays l.n (l.k + 1) l.row.items
