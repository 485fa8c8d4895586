use Rattle.pnp_pairs.proofs.Struck.{only_striking}
use Rattle.pnp_pairs.proofs.laws.struck_runs_do_the_rest.Goals as goal

pub returns : goal.returns
returns c = only_striking
