use Rattle.pnp_laws.proofs.RunsWindows.{needs_are_clipped}
use Rattle.pnp_laws.proofs.laws.needs_are_clipped.Goals as goal

pub returns : goal.returns
returns c = needs_are_clipped
