use Rattle.pnp_pairs.proofs.Struck.{refused_leaves_no_trace}
use Rattle.pnp_pairs.proofs.laws.refused_leaves_no_trace.Goals as goal

pub returns : goal.returns
returns c = refused_leaves_no_trace
