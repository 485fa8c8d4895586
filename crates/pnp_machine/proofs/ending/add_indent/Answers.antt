use Rattle.std.proofs.Common.{◌∙◌, arith}
use Rattle.pnp_machine.proofs.Texts.{indented}
use Rattle.pnp_machine.proofs.ending.add_indent.Goals as goal

pub returns : goal.returns
returns c = c.in_ok-resize.ensures.items ∙ indented c.args.out.now.items _ c.in-Some.length c.args.depth c.args.out.now.ok.0 (omega (arith, c.in-Some.ensures))
