use Rattle.pnp_laws.proofs.RunsEnd as proved
use Rattle.pnp_laws.proofs.laws.comes_to_rest.Goals as goal

-- src/laws.rt:47:1
pub returns : goal.returns
returns c = proved.every_run_settles
