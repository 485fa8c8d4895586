use Rattle.notify_front.proofs.DeskMoves.{begin_goes}
use Rattle.notify_front.proofs.desk.Desk.begin.Goals as goal

pub returns-clause-moves : goal.returns-clause-moves
returns-clause-moves g c =
    begin_goes c.self.inside.manager c.self.inside.registrations c.self.inside.round c.args.self.now c.self.view_is
    c.in_ok-moved.moved c.step.new.self c.in_ok-moved.ensures.moves c.begin.new.self c.hear.new.self c.requires c.begin.ensures c.hear.ensures
