use Rattle.std.proofs.Common.{arith, ◌==◌, not, length}
use Rattle.std.proofs.lemmas.Bool.Decides.{nat_tests}
use Rattle.lint_cli.proofs.Loops.{found_here, found_later}
use Rattle.lint_cli.proofs.warnings.matching_id.Goals as goal

pub returns-then-len-ne0 : goal.returns-then-len-ne0
returns-then-len-ne0 c =
    found_here (λ id. not (length id == 0)) _ c.args.ids.now c.loop-at.at c.get-id.result.now c.loop-at.invariant (omega (arith, c.len-at-end.ensures, c.loop-at-test.true))
    (λ d. c.get-id.ensures.item d) (grind (arith, nat_tests, c.len.ensures, c.if-len-ne0.true))

pub loop-at-preserved : goal.loop-at-preserved
loop-at-preserved c =
    found_later (λ id. not (length id == 0)) _ c.args.ids.now c.loop-at.at c.get-id.result.now c.loop-at.invariant (omega (arith, c.len-at-end.ensures, c.loop-at-test.true))
    (λ d. c.get-id.ensures.item d) (grind (arith, nat_tests, c.len.ensures, c.if-len-ne0.false))
