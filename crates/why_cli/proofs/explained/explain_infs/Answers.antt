use Rattle.pnp_cli.proofs.Ended.{starts_here}
use Rattle.why_cli.proofs.explained.explain_infs.Goals as goal

pub explain_machine-requires-clause-start : goal.explain_machine-requires-clause-start
explain_machine-requires-clause-start g c = starts_here c.args.infs.items c.args.budget (g.R.Drivers.rows c.args.rack) c.in-Ok.manager c.in-Ok.ensures
