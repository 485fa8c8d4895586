use Rattle.live_laws.proofs.AreRuns.{each_live_output_is_a_run}
use Rattle.live_laws.proofs.laws.each_live_output_is_a_run.Goals as goal

pub returns : goal.returns
returns c = each_live_output_is_a_run
