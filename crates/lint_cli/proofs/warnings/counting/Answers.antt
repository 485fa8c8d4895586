use Rattle.std.proofs.Common.{arith}
use Rattle.std.specs.Option.{option_map}
use Rattle.lint_cli.specs.Warnings.{counts}
use Rattle.lint_cli.proofs.Loops.{filter_more}
use Rattle.lint_cli.proofs.warnings.counting.Goals as goal

pub loop-at-preserved : goal.loop-at-preserved
loop-at-preserved c =
    filter_more (counts (option_map (λ n. n.now) c.args.ids)) _ _ _ c.args.lines.now c.loop-at.at c.get.result.now c.loop-at.invariant
    (omega (arith, c.len-at-end.ensures, c.loop-at-test.true)) (λ d. c.get.ensures.item d) c.in_ok-push_counting.ensures
