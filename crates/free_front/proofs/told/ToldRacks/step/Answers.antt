use Rattle.free_front.proofs.Names.{told_alike, told_from, up_from}
use Rattle.free_front.proofs.told.ToldRacks.step.Goals as goal

pub step_up-requires : goal.step_up-requires
step_up-requires c = up_from c.args.front.now.manager.state.core.rack c.args.self.now c.catch_up.new.self c.requires c.catch_up.ensures.alike c.in_ok-catch_up.ensures.none
