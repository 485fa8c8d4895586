use Rattle.pnp_promises.proofs.Asks.{ends_when_answered}
use Rattle.pnp_promises.proofs.laws.ends_when_answered.Goals as goal

pub returns : goal.returns
returns c = ends_when_answered
