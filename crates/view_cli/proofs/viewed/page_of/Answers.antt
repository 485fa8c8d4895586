use Rattle.pnp_cli.proofs.Ended.{starts_here}
use Rattle.view_cli.proofs.viewed.page_of.Goals as goal

pub page_machine-requires-clause-start : goal.page_machine-requires-clause-start
page_machine-requires-clause-start g c = starts_here c.args.infs.items c.args.budget (g.R.Drivers.rows c.args.rack) c.in-Ok.manager c.in-Ok.ensures
