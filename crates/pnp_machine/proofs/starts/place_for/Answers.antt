use Rattle.std.proofs.Common.{rules, arith, nat_le}
use Rattle.std.proofs.lemmas.List.Sorted.{IsPartitionPoint-from_clause}
use Rattle.pnp_model.specs.Records.{Activity}
use Rattle.pnp_machine.proofs.Inserts.{ascends, inserted, keys_part}
use Rattle.pnp_machine.proofs.starts.place_for.Goals as goal

pub returns-clause-place : goal.returns-clause-place
returns-clause-place c =
    let parted = keys_part (λ (a : Activity). a.serial) c.args.works.now c.args.serial (ascends 0 c.args.works.now c.requires) in
    let point = IsPartitionPoint-from_clause (λ (a : Activity). nat_le a.serial c.args.serial) _ _ c.partition_point.ensures.partitioned parted (λ a r q k. search rules) in
    λ a. inserted (λ (b : Activity). b.serial) c.args.works.now c.args.serial c.partition_point.result a c.partition_point.ensures.bound
    (λ j d less. point.0 j d (omega arith) less) (λ j d past less. point.1 j d past less)
