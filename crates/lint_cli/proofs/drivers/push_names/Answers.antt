use Rattle.std.proofs.Common.{arith, ◌∙◌, sym}
use Rattle.lint_cli.proofs.Loops.{mapped_more}
use Rattle.lint_cli.proofs.drivers.push_names.Goals as goal

pub loop-at-preserved : goal.loop-at-preserved
loop-at-preserved c =
    mapped_more (λ name. (c.args.line, name)) _ _ _ c.args.names.now c.loop-at.at c.bytes.result.now c.loop-at.invariant (omega (arith, c.len-at-end.ensures, c.loop-at-test.true))
    (λ d. c.get.ensures.item d ∙ sym c.bytes.ensures) c.in_ok-push_one.ensures
