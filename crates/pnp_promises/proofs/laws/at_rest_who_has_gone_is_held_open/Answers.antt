use Rattle.pnp_promises.proofs.AtRest.{at_rest_who_has_gone_is_held_open}
use Rattle.pnp_promises.proofs.laws.at_rest_who_has_gone_is_held_open.Goals as goal

pub returns : goal.returns
returns c = at_rest_who_has_gone_is_held_open
