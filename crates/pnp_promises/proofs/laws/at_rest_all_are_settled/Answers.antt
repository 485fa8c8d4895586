use Rattle.pnp_promises.proofs.Settled.{at_rest_all_are_settled}
use Rattle.pnp_promises.proofs.laws.at_rest_all_are_settled.Goals as goal

pub returns : goal.returns
returns c = at_rest_all_are_settled
