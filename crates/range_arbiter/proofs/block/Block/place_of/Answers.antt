use Rattle.std.proofs.Common.{rules, arith, ◌≡◌, ◌+◌, ◌-◌, length, get_or, sym, ◌∙◌, ap}
use Rattle.std.specs.Prelude.{not}
use Rattle.std.proofs.lemmas.List.Sorted.{IsPartitionPoint-from_clause}
use Rattle.range_arbiter.specs.Pairs.{Pair, is_before}
use Rattle.range_arbiter.proofs.Blocking.{parted_pairs, front_pairs, back_pairs, front_last}
use Rattle.range_arbiter.proofs.block.Block.place_of.Goals as goal

pub returns-clause-front : goal.returns-clause-front
returns-clause-front c =
    let xs = c.args.self.now in
    let p = c.args.pair.now in
    let at = c.partition_point.result in
    let parted = rw c.self.view_is at (rw c.deref.ensures.value at c.partition_point.ensures.partitioned) in
    let point = IsPartitionPoint-from_clause (λ (e : Pair). not (is_before p e)) xs at parted (parted_pairs xs p c.requires) (λ a r q k. search rules) in
    front_pairs xs p at (λ k d lt. point.0 k d (omega arith) lt)

pub returns-clause-back : goal.returns-clause-back
returns-clause-back c =
    let xs = c.args.self.now in
    let p = c.args.pair.now in
    let at = c.partition_point.result in
    let parted = rw c.self.view_is at (rw c.deref.ensures.value at c.partition_point.ensures.partitioned) in
    let point = IsPartitionPoint-from_clause (λ (e : Pair). not (is_before p e)) xs at parted (parted_pairs xs p c.requires) (λ a r q k. search rules) in
    back_pairs xs p at (λ k d low lt. point.1 k d low lt)

pub returns-then-not-comes_before-clause-front : goal.returns-then-not-comes_before-clause-front
returns-then-not-comes_before-clause-front c =
    let xs = c.args.self.now in
    let n = c.len-last.result - 1 in
    let z = c.index.result.now in
    let same : length c.self.inside.pairs.items ≡ length xs = ap length c.self.view_is in
    let count = c.len-last.ensures in
    let some = c.self.invariant.some in
    let long : n + 1 ≡ length xs = omega (arith, c.self.inside.pairs.ok.0) in
    let is : z ≡ get_or xs n z = c.index.ensures ∙ ap (λ l. get_or l n z) c.self.view_is in
    front_last xs c.args.pair.now z n c.requires long is (sym c.comes_before.ensures ∙ c.if-not-comes_before.true)
