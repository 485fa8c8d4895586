use Rattle.std.proofs.Common.{◌≡◌, ◌+◌, ◌-◌, inr, [], take, length, get_or, sym, ◌∙◌, ap, arith, length-append}
use Rattle.range_arbiter.specs.Blocks.{pairs_in}
use Rattle.range_arbiter.proofs.Blocking.{pairs_in_next, at_default}
use Rattle.range_arbiter.proofs.blocks.light.Goals as goal

pub loop-at-preserved : goal.loop-at-preserved
loop-at-preserved c =
    let bs = c.args.blocks.now in
    let i = c.loop-at.at in
    let b = c.index-blocks-at.result in
    let same : length c.pairs-count.result.now ≡ length b = ap length c.pairs-count.ensures.pairs in
    let next : length (pairs_in (take (i + 1) bs)) ≡ length (pairs_in (take i bs)) + length b =
    ap length (pairs_in_next bs i b c.loop-at-test.true c.index-blocks-at.is) ∙ length-append (pairs_in (take i bs)) b in
    let sum = c.loop-at.invariant.sum in
    let some = c.pairs-count.ensures.some in
    let few = c.pairs-count.ensures.few in
    let far = c.if-front-count-le32.false in
    let back : i + 1 - 1 ≡ i = omega arith in
    let here : b ≡ get_or bs i [] = at_default bs i b [] c.loop-at-test.true c.index-blocks-at.is in
    record {
      sum = omega arith;
      most = omega arith;
      least = omega arith;
      before = inr (omega arith, same ∙ ap length here ∙ ap (λ n. length (get_or bs n [])) (sym back));
    }
