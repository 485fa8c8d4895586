use Rattle.std.proofs.Common.{take}
use Rattle.range_arbiter.specs.Blocks.{pairs_in}
use Rattle.range_arbiter.specs.Sweeps.{Cleared}
use Rattle.range_arbiter.proofs.sweep.sweep.Given as goal

abbrev pub invariant-loop-block : goal.invariant-loop-block
invariant-loop-block l = Cleared (pairs_in (take l.block-index l.blocks)) l.want l.from l.bound
