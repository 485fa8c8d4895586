use Rattle.std.proofs.Common.{arith}
use Rattle.explore_report.proofs.Looking.{looked_all}
use Rattle.explore_report.proofs.expected.look.Goals as goal

pub returns : goal.returns
returns c = looked_all c.args.patterns.now c.args.line.now c.args.fitted.now c.loop-at.fitted c.loop-at.at (omega (arith, c.loop-at-test.false)) c.requires c.loop-at.invariant
