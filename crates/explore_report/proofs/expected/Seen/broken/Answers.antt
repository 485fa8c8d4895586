use Rattle.std.proofs.Common.{◌∙◌, arith}
use Rattle.explore_report.proofs.Looking.{all_turned, broken_is}
use Rattle.explore_report.proofs.expected.Seen.broken.Goals as goal

pub returns : goal.returns
returns c = λ expected lines h.
    all_turned c.args.self.now.never.items c.deref-fitted-items.result.now c.args.self.now.always.items c.loop-fitted.broken.items c.loop-fitted.fitted-index
    (omega (arith, c.loop-fitted-test.false)) c.deref-fitted-items.ensures.value c.loop-fitted.invariant
    ∙ broken_is expected lines c.args.self.now h
