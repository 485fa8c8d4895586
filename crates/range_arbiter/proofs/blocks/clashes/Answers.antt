use Rattle.std.proofs.Common.{sym, ◌∙◌}
use Rattle.range_arbiter.proofs.Clashing.{any_block, none_more}
use Rattle.range_arbiter.proofs.blocks.clashes.Goals as goal

pub returns-then-clashes : goal.returns-then-clashes
returns-then-clashes c =
    sym (any_block c.args.res.now c.args.blocks.now c.loop-block.block-index c.block-item.result c.loop-block-test.true c.block-item.is (sym c.clashes.ensures ∙ c.if-clashes.true))

pub loop-block-preserved : goal.loop-block-preserved
loop-block-preserved c =
    none_more c.args.res.now c.args.blocks.now c.loop-block.block-index c.block-item.result c.loop-block-test.true c.block-item.is
    (sym c.clashes.ensures ∙ c.if-clashes.false) c.loop-block.invariant
