use Rattle.std.proofs.Common.{rules, arith, nat_le, ℕ}
use Rattle.std.proofs.lemmas.List.Sorted.{IsPartitionPoint-from_clause}
use Rattle.pnp_machine.proofs.Inserts.{inserted, numbers_part}
use Rattle.pnp_machine.proofs.starts.place_in.Goals as goal

pub returns-clause-place : goal.returns-clause-place
returns-clause-place c =
    let parted = numbers_part c.args.numbers.now c.args.number c.requires in
    let point = IsPartitionPoint-from_clause (λ (n : ℕ). nat_le n c.args.number) _ _ c.partition_point.ensures.partitioned parted (λ a r q k. search rules) in
    inserted (λ (n : ℕ). n) c.args.numbers.now c.args.number c.partition_point.result c.args.number c.partition_point.ensures.bound
    (λ j d less. point.0 j d (omega arith) less) (λ j d past less. point.1 j d past less)
