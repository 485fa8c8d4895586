use Rattle.pnp_laws.proofs.NodesPlugged.{needs_are_within}
use Rattle.pnp_laws.proofs.laws.needs_are_within.Goals as goal

pub returns : goal.returns
returns c = needs_are_within
