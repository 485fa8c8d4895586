use Rattle.pnp_promises.proofs.Keeps.{tasks_are_in_turn}
use Rattle.pnp_promises.proofs.laws.tasks_are_in_turn.Goals as goal

pub returns : goal.returns
returns c = tasks_are_in_turn
