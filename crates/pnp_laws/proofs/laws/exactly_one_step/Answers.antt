use Rattle.pnp_laws.proofs.RunsStep as proved
use Rattle.pnp_laws.proofs.laws.exactly_one_step.Goals as goal

-- src/laws.rt:42:1
pub returns : goal.returns
returns c = proved.exactly_one_step
