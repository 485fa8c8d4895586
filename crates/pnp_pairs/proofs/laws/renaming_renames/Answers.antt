use Rattle.pnp_pairs.proofs.Runs.{renaming_renames}
use Rattle.pnp_pairs.proofs.laws.renaming_renames.Goals as goal

pub returns : goal.returns
returns c = renaming_renames
