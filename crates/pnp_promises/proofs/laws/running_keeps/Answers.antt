use Rattle.pnp_promises.proofs.Keeps.{running_keeps}
use Rattle.pnp_promises.proofs.laws.running_keeps.Goals as goal

pub returns : goal.returns
returns c = running_keeps
