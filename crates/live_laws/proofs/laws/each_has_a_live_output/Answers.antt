use Rattle.live_laws.proofs.Ending.{each_has_a_live_output}
use Rattle.live_laws.proofs.laws.each_has_a_live_output.Goals as goal

pub returns : goal.returns
returns c = each_has_a_live_output
