use Rattle.pnp_promises.proofs.Keeps.{handles_are_the_scripts}
use Rattle.pnp_promises.proofs.laws.handles_are_the_scripts.Goals as goal

pub returns : goal.returns
returns c = handles_are_the_scripts
