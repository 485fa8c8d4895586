use Rattle.std.proofs.Common.{◌≡◌, ◌++◌, take}
use Rattle.range_arbiter.specs.Blocks.{pairs_in}
use Rattle.range_arbiter.proofs.blocks.push_onto.Given as goal

abbrev pub invariant-loop-block : goal.invariant-loop-block
invariant-loop-block l = l.list.items ≡ l.initial.list.items ++ pairs_in (take l.block-index l.blocks)
