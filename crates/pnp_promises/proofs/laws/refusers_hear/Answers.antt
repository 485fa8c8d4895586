use Rattle.pnp_promises.proofs.Hears.{refusers_hear}
use Rattle.pnp_promises.proofs.laws.refusers_hear.Goals as goal

pub returns : goal.returns
returns c = refusers_hear
