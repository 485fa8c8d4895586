use Rattle.std.proofs.Common.{take}
use Rattle.range_arbiter.specs.Sweeps.{Passed}
use Rattle.range_arbiter.proofs.sweep.past_pairs.Given as goal

abbrev pub invariant-loop-pair : goal.invariant-loop-pair
invariant-loop-pair l = Passed (take l.pair-index l.pairs) l.want l.place l.start
