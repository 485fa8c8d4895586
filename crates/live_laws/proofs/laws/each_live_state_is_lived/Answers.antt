use Rattle.live_laws.proofs.LivedStates.{each_live_state_is_lived}
use Rattle.live_laws.proofs.laws.each_live_state_is_lived.Goals as goal

pub returns : goal.returns
returns c = each_live_state_is_lived
