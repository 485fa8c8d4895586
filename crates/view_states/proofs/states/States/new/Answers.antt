use Rattle.view_states.specs.States.{Tells}
use Rattle.view_states.proofs.states.States.new.Goals as goal

pub returns : goal.returns
returns c = rw (c.new.ensures.items, c.new-2.ensures.items) Tells.none
