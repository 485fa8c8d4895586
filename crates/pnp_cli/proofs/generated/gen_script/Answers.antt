use Rattle.pnp_cli.proofs.MadeLines.{next_line}
use Rattle.pnp_cli.proofs.generated.gen_script.Goals as goal

pub loop-k-preserved : goal.loop-k-preserved
loop-k-preserved c = next_line c.loop-k.k c.loop-k.text.items c.add_line.new.text.items c.loop-k.invariant c.in_ok-add_line.ensures
