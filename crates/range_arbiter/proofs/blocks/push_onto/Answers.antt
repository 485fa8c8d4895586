use Rattle.std.proofs.Common.{◌++◌, take, sym, ◌∙◌, ap, append_assoc}
use Rattle.range_arbiter.specs.Blocks.{pairs_in}
use Rattle.range_arbiter.proofs.Blocking.{pairs_in_next}
use Rattle.range_arbiter.proofs.blocks.push_onto.Goals as goal

pub loop-block-preserved : goal.loop-block-preserved
loop-block-preserved c =
    let bs = c.args.blocks.now in
    let b = c.block-item.result in
    let was = c.args.list.now.items in
    let front = pairs_in (take c.loop-block.block-index bs) in
    c.in_ok-extend_from_slice.ensures.items ∙ ap (λ l. l ++ c.pairs.result.now) c.loop-block.invariant ∙ append_assoc was front c.pairs.result.now
    ∙ ap (λ l. was ++ (front ++ l)) c.pairs.ensures.pairs ∙ ap (λ l. was ++ l) (sym (pairs_in_next bs c.loop-block.block-index b c.loop-block-test.true c.block-item.is))
