use Rattle.std.proofs.Common.{◌≡◌, false, take}
use Rattle.std.specs.List.{list_any}
use Rattle.resource_reqs.specs.Resources.{clashes}
use Rattle.range_arbiter.specs.Pairs.{res_list}
use Rattle.range_arbiter.proofs.block.one_clashes.Given as goal

abbrev pub invariant-loop-pair : goal.invariant-loop-pair
invariant-loop-pair l = list_any (clashes l.res) (res_list (take l.pair-index l.pairs)) ≡ false
