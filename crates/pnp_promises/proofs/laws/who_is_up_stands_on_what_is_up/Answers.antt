use Rattle.pnp_promises.proofs.AtRest.{who_is_up_stands_on_what_is_up}
use Rattle.pnp_promises.proofs.laws.who_is_up_stands_on_what_is_up.Goals as goal

pub returns : goal.returns
returns c = who_is_up_stands_on_what_is_up
