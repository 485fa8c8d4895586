use Rattle.pnp_cli.proofs.OneOutput as proved
use Rattle.pnp_cli.proofs.laws.exactly_one_output.Goals as goal

pub returns : goal.returns
returns c = proved.exactly_one_output
