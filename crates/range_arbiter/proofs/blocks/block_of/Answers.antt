use Rattle.std.proofs.Common.{◌≡◌, ◌-◌, List, rules, arith, sym, subst, false, length, ◌∙◌, ap}
use Rattle.std.specs.Prelude.{not}
use Rattle.std.proofs.lemmas.List.Sorted.{IsPartitionPoint-from_clause}
use Rattle.range_arbiter.specs.Pairs.{Pair, is_before}
use Rattle.range_arbiter.specs.Blocks.{first_of, IsPlace}
use Rattle.range_arbiter.proofs.Blocking.{parted_blocks, place_is, place_last}
use Rattle.range_arbiter.proofs.blocks.block_of.Goals as goal

pub returns-clause-place : goal.returns-clause-place
returns-clause-place c =
    let bs = c.args.blocks.now in
    let p = c.args.pair.now in
    let k = c.partition_point-beyond.result in
    let point = IsPartitionPoint-from_clause (λ (b : List Pair). not (is_before p (first_of b))) bs k c.partition_point-beyond.ensures.partitioned
    (parted_blocks bs p c.requires.some c.requires.in_order) (λ a r q k. search rules) in
    let less : c.saturating_sub.result ≡ k - 1 = (let sub = c.saturating_sub.ensures in omega arith) in
    subst (IsPlace bs p) (sym less)
    (place_is bs p k c.requires.some c.requires.in_order c.partition_point-beyond.ensures.bound c.requires.any (λ i d lt. point.0 i d (omega arith) lt) (λ i d low lt. point.1 i d low lt))

pub returns-then-not-comes_before-clause-place : goal.returns-then-not-comes_before-clause-place
returns-then-not-comes_before-clause-place c =
    let bs = c.args.blocks.now in
    let p = c.args.pair.now in
    let b = c.index-blocks-last.result in
    let any = c.requires.any in
    let h : is_before p (first_of b) ≡ false = ap (is_before p) (sym c.first.ensures) ∙ (sym c.comes_before.ensures ∙ c.if-not-comes_before.true) in
    place_last bs p b (length bs - 1) c.requires.some c.requires.in_order (omega arith) c.index-blocks-last.is h
