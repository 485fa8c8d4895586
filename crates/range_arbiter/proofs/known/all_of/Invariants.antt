use Rattle.std.proofs.Common.{false, take}
use Rattle.range_arbiter.specs.Spans.{Covers}
use Rattle.range_arbiter.proofs.known.all_of.Given as goal

abbrev pub invariant-loop-pair : goal.invariant-loop-pair
invariant-loop-pair l = Covers false (take l.pair-index l.pairs) l.span
