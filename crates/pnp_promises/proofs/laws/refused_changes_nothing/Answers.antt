use Rattle.pnp_promises.proofs.Events.{refused_changes_nothing}
use Rattle.pnp_promises.proofs.laws.refused_changes_nothing.Goals as goal

pub returns : goal.returns
returns c = refused_changes_nothing
