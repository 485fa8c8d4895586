use Rattle.pnp_labels.specs.declared.label.OpKind.{OpKind}
use Rattle.pnp_machine.proofs.Dues.{due_there}
use Rattle.notify_front.specs.Hands.{begins}
use Rattle.notify_front.proofs.DeskMoves.{surprise_goes}
use Rattle.notify_front.proofs.desk.Desk.surprise.Goals as goal

pub on_set-requires : goal.on_set-requires
on_set-requires g c = due_there c.args.self.now.manager.state (begins OpKind.Surprise c.args.serial) c.requires.is_due

pub returns-clause-moves : goal.returns-clause-moves
returns-clause-moves g c =
    surprise_goes c.self.inside.manager c.self.inside.registrations c.self.inside.round c.args.self.now c.self.view_is
    c.in_ok-moved.moved c.step.new.self c.in_ok-moved.ensures.moves c.requires.hand c.args.serial c.in_ok-told.told.items c.running.result c.hear.new.self
    c.requires.is_due c.in_ok-told.ensures c.running.ensures c.hear.ensures
