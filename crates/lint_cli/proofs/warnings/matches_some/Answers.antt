use Rattle.std.proofs.Common.{arith, ◌∙◌, sym}
use Rattle.lint_cli.specs.Warnings.{is_some_of}
use Rattle.lint_cli.proofs.Loops.{any_here, any_later}
use Rattle.lint_cli.proofs.warnings.matches_some.Goals as goal

pub returns-then-branch : goal.returns-then-branch
returns-then-branch c =
    any_here (is_some_of c.args.ids.now) _ c.args.line.now c.loop-at.at c.bytes.result.now c.loop-at.invariant (omega (arith, c.len-at-end.ensures, c.loop-at-test.true))
    (λ d. c.get.ensures.item d ∙ sym c.bytes.ensures) (sym c.in_ok-is_some_of.ensures ∙ c.if-branch.true)

pub loop-at-preserved : goal.loop-at-preserved
loop-at-preserved c =
    any_later (is_some_of c.args.ids.now) _ c.args.line.now c.loop-at.at c.bytes.result.now c.loop-at.invariant (omega (arith, c.len-at-end.ensures, c.loop-at-test.true))
    (λ d. c.get.ensures.item d ∙ sym c.bytes.ensures) (sym c.in_ok-is_some_of.ensures ∙ c.if-branch.false)
