use Rattle.notify_front.proofs.Rounds.{begins_all}
use Rattle.notify_front.proofs.round.Round.begin.Goals as goal

pub returns : goal.returns
returns c = begins_all c.self.inside.stage c.self.inside.told.items c.self.inside.at c.args.self.now c.self.view_is c.requires
