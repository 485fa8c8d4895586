use Rattle.pnp_cli.proofs.Checking.{exactly_one_verdict}
use Rattle.pnp_cli.proofs.laws.exactly_one_verdict.Goals as goal

pub returns : goal.returns
returns c = exactly_one_verdict
