use Rattle.pnp_pairs.proofs.Endings.{renamed_end}
use Rattle.pnp_pairs.proofs.laws.renamed_ends_alike.Goals as goal

pub returns : goal.returns
returns c = renamed_end
