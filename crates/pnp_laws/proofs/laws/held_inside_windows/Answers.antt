use Rattle.pnp_laws.proofs.RunsWindows.{held_inside_windows}
use Rattle.pnp_laws.proofs.laws.held_inside_windows.Goals as goal

pub returns : goal.returns
returns c = held_inside_windows
