use Rattle.std.proofs.Common.{take}
use Rattle.range_arbiter.specs.Spans.{NoneShares}
use Rattle.range_arbiter.proofs.known.one_shares.Given as goal

abbrev pub invariant-loop-pair : goal.invariant-loop-pair
invariant-loop-pair l = NoneShares (take l.pair-index l.pairs)
