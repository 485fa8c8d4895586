use Rattle.std.proofs.Common.{get_or, arith, rules}
use Rattle.std.specs.Prelude.{nat_lt}
use Rattle.std.proofs.lemmas.Bool.{ltb-true}
use Rattle.std.proofs.lemmas.List.Sorted.{IsPartitionPoint-from_clause}
use Rattle.script_bus.proofs.Births.{below_parts}
use Rattle.script_bus.proofs.listing.below_in.Goals as goal

pub returns-clause-below : goal.returns-clause-below
returns-clause-below c =
    let point = IsPartitionPoint-from_clause (λ k. nat_lt k c.args.from) _ _ c.partition_point.ensures.partitioned (below_parts c.args.numbers.now c.args.from c.requires) (λ a r q k. search rules) in
    λ k d less. ltb-true (get_or c.args.numbers.now k d) c.args.from (point.0 k d (omega arith) less)
