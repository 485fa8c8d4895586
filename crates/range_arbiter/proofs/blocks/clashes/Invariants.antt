use Rattle.std.proofs.Common.{◌≡◌, false, take}
use Rattle.std.specs.List.{list_any}
use Rattle.resource_reqs.specs.Resources.{clashes}
use Rattle.range_arbiter.specs.Pairs.{res_list}
use Rattle.range_arbiter.specs.Blocks.{pairs_in}
use Rattle.range_arbiter.proofs.blocks.clashes.Given as goal

abbrev pub invariant-loop-block : goal.invariant-loop-block
invariant-loop-block l = list_any (clashes l.res) (res_list (pairs_in (take l.block-index l.blocks))) ≡ false
