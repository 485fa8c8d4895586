use Rattle.std.proofs.Common.{◌++◌, ◌+◌, take, drop, sym, subst}
use Rattle.range_arbiter.specs.Orders.{IsOrdered}
use Rattle.range_arbiter.specs.Blocks.{pairs_in}
use Rattle.range_arbiter.specs.Sweeps.{Cleared, EndedWith}
use Rattle.range_arbiter.proofs.InOrder.{ordered_right}
use Rattle.range_arbiter.proofs.Blocking.{pairs_in_item, pairs_in_next, ordered_block, block_in}
use Rattle.range_arbiter.proofs.Sweeping.{cleared_both, cleared_then, ended_left}
use Rattle.range_arbiter.proofs.sweep.sweep.Goals as goal

pub past_block-requires-clause-in_order : goal.past_block-requires-clause-in_order
past_block-requires-clause-in_order c = ordered_block c.args.blocks.now c.loop-block.block-index c.block-item.result c.loop-block-test.true c.block-item.is c.requires.in_order

pub past_block-requires-clause-kinds : goal.past_block-requires-clause-kinds
past_block-requires-clause-kinds c = λ p i.
    c.requires.kinds p (block_in c.args.blocks.now c.loop-block.block-index c.block-item.result c.loop-block-test.true c.block-item.is p i)

pub returns-in-Err-clause-ended : goal.returns-in-Err-clause-ended
returns-in-Err-clause-ended c =
    let bs = c.args.blocks.now in
    let i = c.loop-block.block-index in
    let b = c.block-item.result in
    let want = c.args.want.now in
    let e = c.in-Err.ended in
    let front = pairs_in (take i bs) in
    let back = pairs_in (drop (i + 1) bs) in
    let is = pairs_in_item bs i b c.loop-block-test.true c.block-item.is in
    subst (λ l. EndedWith l want c.args.from e) (sym is)
    (cleared_then front (b ++ back) want c.args.from c.loop-block.bound e c.loop-block.invariant
    (ended_left b back want c.loop-block.bound e (ordered_right front (b ++ back) (subst IsOrdered is c.requires.in_order)) c.in-Err.ensures.ended))

pub loop-block-preserved : goal.loop-block-preserved
loop-block-preserved c =
    let bs = c.args.blocks.now in
    let i = c.loop-block.block-index in
    let b = c.block-item.result in
    subst (λ l. Cleared l c.args.want.now c.args.from c.in-Ok.next) (sym (pairs_in_next bs i b c.loop-block-test.true c.block-item.is))
    (cleared_both (pairs_in (take i bs)) b c.args.want.now c.args.from c.loop-block.bound c.in-Ok.next c.loop-block.invariant c.in-Ok.ensures.on)
