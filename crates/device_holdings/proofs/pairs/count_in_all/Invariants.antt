use Rattle.std.proofs.Common.{◌≡◌, ◌-◌, ◌^◌, min, sum_by, take}
use Rattle.device_holdings.specs.Mirrors.{count_of}
use Rattle.device_holdings.proofs.pairs.count_in_all.Given as goal

abbrev pub invariant-parts : goal.invariant-parts
invariant-parts l = l.all ≡ min (sum_by (count_of l.kind) (take l.part-index l.parts)) (2 ^ 64 - 1)
