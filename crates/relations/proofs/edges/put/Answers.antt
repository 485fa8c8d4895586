use Rattle.std.proofs.Common.{◌≡◌, rules, arith, subst, sym, insert, List}
use Rattle.std.specs.Prelude.{nat_le}
use Rattle.std.specs.List.Sorted.{IsNonDecreasingBy}
use Rattle.std.proofs.lemmas.Bool.{leb-true, leb-false}
use Rattle.std.proofs.lemmas.Grind.{common_steps}
use Rattle.std.proofs.lemmas.List.Sorted.{IsPartitionPoint-from_clause, IsPartitionedBy-leb, IsNonDecreasingBy-insert}
use Rattle.relations.specs.declared.edges.Edge.{Edge}
use Rattle.relations.proofs.edges.put.Goals as goal

pub returns-clause-sorted : goal.returns-clause-sorted
returns-clause-sorted c =
    let xs = c.args.edges.now.items in
    let key = λ (e : Edge). e.from in
    let place = c.partition_point-place.result in
    let parted = rw c.deref.ensures.value at c.partition_point-place.ensures.partitioned in
    let bound = rw c.deref.ensures.value at c.partition_point-place.ensures.bound in
    let point = IsPartitionPoint-from_clause (λ e. nat_le e.from c.args.edge.from) xs place parted (IsPartitionedBy-leb key xs c.args.edge.from c.requires.sorted) (λ a r q k. search rules) in
    let put : c.insert.new.self.items ≡ insert xs place c.args.edge = grind (arith, common_steps) in
    subst (λ (l : List Edge). IsNonDecreasingBy key l) (sym put)
    (IsNonDecreasingBy-insert key xs place c.args.edge c.requires.sorted bound
    (λ i d lt. leb-true _ _ (point.0 i d (omega arith) lt))
    (λ i d l lt. let past = leb-false _ _ (point.1 i d l lt) in omega arith))
