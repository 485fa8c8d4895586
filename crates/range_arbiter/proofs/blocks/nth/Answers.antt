use Rattle.std.proofs.Common.{◌≡◌, ◌<◌, ◌≤◌, ◌-◌, ◌+◌, Some, length, get_or, drop, sym, ◌∙◌, ap, subst}
use Rattle.std.specs.Prelude.{slice_get}
use Rattle.range_arbiter.specs.Blocks.{pairs_in}
use Rattle.range_arbiter.proofs.Blocking.{nth_here, nth_next}
use Rattle.range_arbiter.proofs.blocks.nth.Goals as goal

pub returns-then-left-count : goal.returns-then-left-count
returns-then-left-count c =
    let bs = c.args.blocks.now in
    let b = c.block-item.result in
    let n = c.loop-block.left in
    let x = c.index-pairs-left.result in
    let e : x ≡ get_or b n x = c.index-pairs-left.is ∙ ap (λ l. get_or l n x) c.pairs-then-left-count.ensures.pairs in
    let less : n < length b = subst (λ l. n < length l) c.pairs.ensures.pairs c.if-left-count.true in
    ap Some e ∙ sym (c.loop-block.invariant ∙ nth_here bs c.loop-block.block-index b n x c.loop-block-test.true c.block-item.is less)

pub loop-block-preserved : goal.loop-block-preserved
loop-block-preserved c =
    let bs = c.args.blocks.now in
    let b = c.block-item.result in
    let n = c.loop-block.left in
    let more : length b ≤ n = subst (λ l. length l ≤ n) c.pairs.ensures.pairs c.if-left-count.false in
    c.loop-block.invariant ∙ nth_next bs c.loop-block.block-index b n c.loop-block-test.true c.block-item.is more
    ∙ ap (λ l. slice_get (pairs_in (drop (c.loop-block.block-index + 1) bs)) (n - length l)) (sym c.pairs.ensures.pairs)
