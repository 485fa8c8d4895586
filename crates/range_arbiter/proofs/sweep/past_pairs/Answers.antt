use Rattle.std.proofs.Common.{sym, ◌∷◌, [], take, drop, ◌+◌, subst}
use Rattle.range_arbiter.specs.Sweeps.{Passed}
use Rattle.range_arbiter.proofs.Blocking.{item_in, take_item, split_item}
use Rattle.range_arbiter.proofs.Sweeping.{passed_both, ended_middle}
use Rattle.range_arbiter.proofs.sweep.past_pairs.Goals as goal

pub past_pair-requires-clause-kind : goal.past_pair-requires-clause-kind
past_pair-requires-clause-kind c =
    c.requires.kinds c.pair-item.result (item_in c.args.pairs.now c.loop-pair.pair-index c.pair-item.result c.loop-pair-test.true c.pair-item.is)

pub returns-in-Err-clause-ended : goal.returns-in-Err-clause-ended
returns-in-Err-clause-ended c =
    let xs = c.args.pairs.now in
    let i = c.loop-pair.pair-index in
    let x = c.pair-item.result in
    ended_middle xs (take i xs) x (drop (i + 1) xs) c.args.want.now c.args.place c.loop-pair.start c.in-Err.ended
    (split_item xs i x c.loop-pair-test.true c.pair-item.is) c.requires.in_order c.loop-pair.invariant c.in-Err.ensures.ended

pub loop-pair-preserved : goal.loop-pair-preserved
loop-pair-preserved c =
    let xs = c.args.pairs.now in
    let i = c.loop-pair.pair-index in
    let x = c.pair-item.result in
    subst (λ l. Passed l c.args.want.now c.args.place c.in-Ok.next) (sym (take_item xs i x c.loop-pair-test.true c.pair-item.is))
    (passed_both (take i xs) (x ∷ []) c.args.want.now c.args.place c.loop-pair.start c.in-Ok.next c.loop-pair.invariant c.in-Ok.ensures.on)
