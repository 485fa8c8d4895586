use Rattle.std.proofs.Common.{sym, ◌∙◌, ap, subst}
use Rattle.std.proofs.lemmas.List.{take_all}
use Rattle.resource_reqs.specs.Resources.{Res}
use Rattle.range_arbiter.specs.Pairs.{Pair}
use Rattle.range_arbiter.specs.Spans.{NoneShares}
use Rattle.range_arbiter.proofs.Knowing.{none_next}
use Rattle.range_arbiter.proofs.known.one_shares.Goals as goal

pub loop-pair-preserved : goal.loop-pair-preserved
loop-pair-preserved c =
    none_next c.args.pairs.now c.loop-pair.pair-index c.pair-item.result c.loop-pair-test.true c.pair-item.is
    (sym (ap (λ (r : Res). r.shared) (ap (λ (p : Pair). p.1) c.pair.view_is)) ∙ c.if-pair.false) c.loop-pair.invariant

pub returns : goal.returns
returns c = λ none. subst NoneShares (take_all c.loop-pair.pair-index c.args.pairs.now c.loop-pair-test.false) c.loop-pair.invariant
