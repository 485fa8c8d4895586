use Rattle.pnp_laws.proofs.RunsStep as proved
use Rattle.pnp_laws.proofs.laws.quiet_where_it_rests.Goals as goal

-- src/laws.rt:45:1
pub returns : goal.returns
returns c = proved.quiet_where_it_rests
