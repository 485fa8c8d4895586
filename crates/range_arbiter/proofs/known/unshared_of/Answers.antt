use Rattle.std.proofs.Common.{true, ◌∷◌, [], take, sym, subst}
use Rattle.range_arbiter.specs.Spans.{Covers}
use Rattle.range_arbiter.proofs.Blocking.{take_item}
use Rattle.range_arbiter.proofs.known.unshared_of.Goals as goal

pub loop-pair-preserved : goal.loop-pair-preserved
loop-pair-preserved c =
    let xs = c.args.pairs.now in
    let i = c.loop-pair.pair-index in
    let x = c.pair-item.result in
    subst (λ l. Covers true l c.joined-span.result) (sym (take_item xs i x c.loop-pair-test.true c.pair-item.is))
    (c.joined-span.ensures true (take i xs) (x ∷ []) c.loop-pair.invariant c.of.ensures)
