use Rattle.std.proofs.Common.{◌∙◌, sym}
use Rattle.inf_reader.proofs.Digits.{stopped}
use Rattle.inf_reader.proofs.numbers.number_of.Goals as goal

pub returns-then-next-limit-clause-value : goal.returns-then-next-limit-clause-value
returns-then-next-limit-clause-value c =
    stopped c.args.limit c.args.base c.loop-byte.number c.in-Some.digit c.loop-byte.byte-index c.args.text.now c.requires.low c.loop-byte-test.true (sym c.digit_of.ensures.value ∙ c.in-Some.is) c.if-next-limit.true c.loop-byte.invariant.value
