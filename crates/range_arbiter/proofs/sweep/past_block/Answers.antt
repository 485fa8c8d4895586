use Rattle.std.proofs.Common.{subst}
use Rattle.std.proofs.lemmas.Result.{IfOk-weaker, IfErr-weaker}
use Rattle.range_arbiter.specs.Orders.{In}
use Rattle.range_arbiter.specs.Sweeps.{EndedWith, Passed}
use Rattle.range_arbiter.proofs.Sweeping.{cleared_passed, ended_from}
use Rattle.range_arbiter.proofs.sweep.past_block.Goals as goal

pub past_pairs-requires-clause-kinds : goal.past_pairs-requires-clause-kinds
past_pairs-requires-clause-kinds c = λ p i. c.requires.kinds p (subst (In p) c.pairs.ensures.pairs i)

pub returns-in-Some-start_from-clause-on : goal.returns-in-Some-start_from-clause-on
returns-in-Some-start_from-clause-on c =
    let b = c.args.block.now in
    let want = c.args.want.now in
    IfOk-weaker c.past_pairs.result _ _
    (λ s on. cleared_passed b want c.args.from c.in-Some-start_from.start s c.in-Some-start_from.ensures.found.0 c.in-Some-start_from.ensures.least (subst (λ l. Passed l want c.in-Some-start_from.start s) c.pairs.ensures.pairs on))
    c.past_pairs.ensures.on

pub returns-in-Some-start_from-clause-ended : goal.returns-in-Some-start_from-clause-ended
returns-in-Some-start_from-clause-ended c =
    let b = c.args.block.now in
    let want = c.args.want.now in
    IfErr-weaker c.past_pairs.result _ _
    (λ e ended. ended_from b want c.args.from c.in-Some-start_from.start e c.in-Some-start_from.ensures.found.0 c.in-Some-start_from.ensures.least (subst (λ l. EndedWith l want c.in-Some-start_from.start e) c.pairs.ensures.pairs ended))
    c.past_pairs.ensures.ended
