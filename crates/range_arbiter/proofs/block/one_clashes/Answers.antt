use Rattle.std.proofs.Common.{sym, ◌∙◌}
use Rattle.range_arbiter.proofs.Blocking.{item_in}
use Rattle.range_arbiter.proofs.Clashing.{any_in}
use Rattle.range_arbiter.proofs.block.one_clashes.Goals as goal

pub returns-then-clash : goal.returns-then-clash
returns-then-clash c =
    let xs = c.args.pairs.now in
    let x = c.pair-item.result in
    sym (any_in c.args.res.now xs x (item_in xs c.loop-pair.pair-index x c.loop-pair-test.true c.pair-item.is) (sym c.clash.ensures.test ∙ c.if-clash.true))
