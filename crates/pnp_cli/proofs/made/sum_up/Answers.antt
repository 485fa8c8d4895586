use Rattle.pnp_cli.proofs.Ended.{starts_here}
use Rattle.pnp_cli.proofs.MadeRuns.{sums_up_if}
use Rattle.pnp_cli.proofs.made.sum_up.Goals as goal

pub returns-in-Ok : goal.returns-in-Ok
returns-in-Ok g c =
    sums_up_if (g.R.Drivers.rows c.args.rack) c.args.budget c.args.n c.in_ok-infs.ensures.0 c.in_ok-infs.infs.items c.in-Ok.manager c.sum_machine.result
    c.in_ok-infs.ensures.1 c.in_ok-infs.ensures.2 c.in-Ok.ensures c.sum_machine.ensures

pub sum_machine-requires-clause-start : goal.sum_machine-requires-clause-start
sum_machine-requires-clause-start g c = starts_here c.in_ok-infs.infs.items c.args.budget (g.R.Drivers.rows c.args.rack) c.in-Ok.manager c.in-Ok.ensures
