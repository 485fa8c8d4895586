use Rattle.std.proofs.Common.{◌∙◌}
use Rattle.pnp_cli.proofs.MadeLines.{short_inf}
use Rattle.pnp_cli.proofs.MadeRuns.{inf_wants}
use Rattle.pnp_cli.proofs.made.read_made.Goals as goal

pub read-requires : goal.read-requires
read-requires c = short_inf c.deref.result.now (c.deref.ensures.value ∙ c.in_ok-bytes.ensures)

pub inf_memory-requires : goal.inf_memory-requires
inf_memory-requires c = inf_wants c.in-Err.error c.deref.result.now (c.deref.ensures.value ∙ c.in_ok-bytes.ensures) c.in-Err.ensures
