use Rattle.lint_cli.proofs.Steps.{one_bad}
use Rattle.lint_cli.proofs.report.push_all_bad.Goals as goal

pub loop-line-preserved : goal.loop-line-preserved
loop-line-preserved c =
    one_bad c.args.file.now c.deref-line-items.result.now c.loop-line.line-index _ _ c.loop-line.out.items c.push_bad.new.out.items c.loop-line-test.true c.in_ok-push_bad.ensures
    c.loop-line.invariant
