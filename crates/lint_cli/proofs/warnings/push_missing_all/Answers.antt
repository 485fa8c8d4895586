use Rattle.lint_cli.specs.Warnings.{seen}
use Rattle.lint_cli.proofs.Loops.{missing_more}
use Rattle.lint_cli.proofs.warnings.push_missing_all.Goals as goal

pub loop-one-preserved : goal.loop-one-preserved
loop-one-preserved c =
    missing_more seen c.args.file.now c.args.drivers.now c.loop-one.passed c.push_once.new.passed
    c.loop-one.out.items _ c.push_once.new.out.items c.args.named.now c.loop-one.one-index _ c.loop-one.invariant c.loop-one-test.true c.in_ok-push_once.ensures.text
    c.in_ok-push_once.ensures.passed
