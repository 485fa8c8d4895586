use Rattle.live_laws.proofs.OneOutput.{one_live_output}
use Rattle.live_laws.proofs.laws.one_live_output.Goals as goal

pub returns : goal.returns
returns c = one_live_output
