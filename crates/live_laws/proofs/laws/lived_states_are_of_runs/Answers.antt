use Rattle.live_laws.proofs.LivedStates.{lived_states_are_of_runs}
use Rattle.live_laws.proofs.laws.lived_states_are_of_runs.Goals as goal

pub returns : goal.returns
returns c = lived_states_are_of_runs
