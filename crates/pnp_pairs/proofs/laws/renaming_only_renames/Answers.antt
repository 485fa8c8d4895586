use Rattle.pnp_pairs.proofs.Runs.{only_renaming}
use Rattle.pnp_pairs.proofs.laws.renaming_only_renames.Goals as goal

pub returns : goal.returns
returns c = only_renaming
