use Rattle.pnp_promises.proofs.Lines.{lines_mean_what_they_say}
use Rattle.pnp_promises.proofs.laws.lines_mean_what_they_say.Goals as goal

pub returns : goal.returns
returns c = lines_mean_what_they_say
