use Rattle.pnp_laws.proofs.RunsStand.{every_run_follows}
use Rattle.pnp_laws.proofs.laws.follows_diagram.Goals as goal

-- src/laws.rt:14:1
pub returns : goal.returns
returns c = every_run_follows
