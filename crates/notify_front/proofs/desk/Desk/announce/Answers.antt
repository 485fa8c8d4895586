use Rattle.std.proofs.Common.{◌∙◌, ap, sym}
use Rattle.pnp_machine.proofs.Dues.{due_there}
use Rattle.notify_front.specs.Hands.{begins, next_told}
use Rattle.notify_front.proofs.DeskMoves.{announce_goes, unasked_alone}
use Rattle.notify_front.proofs.desk.Desk.announce.Goals as goal

pub on_set-requires : goal.on_set-requires
on_set-requires g c = due_there c.args.self.now.manager.state (begins c.args.kind c.args.serial) c.requires.is_due

pub pass-requires-clause-alone : goal.pass-requires-clause-alone
pass-requires-clause-alone g c =
    unasked_alone c.self.inside.manager c.self.inside.registrations c.self.inside.round c.args.self.now c.self.view_is c.requires.hand c.args.kind c.args.serial c.in_ok-on_set.field-0.items
    c.requires.is_due c.requires.in_order c.in_ok-on_set.ensures (c.in_default.ensures ∙ ap next_told c.asking-round.ensures)

pub returns-clause-moves : goal.returns-clause-moves
returns-clause-moves g c =
    announce_goes c.self.inside.manager c.self.inside.registrations c.self.inside.round c.args.self.now c.self.view_is c.args.kind c.args.serial c.in_ok-on_set.field-0.items c.in-Some.client.now
    c.in_ok-label.label c.asking-round.result c.advance.new.self c.requires.hand c.requires.is_due c.requires.in_order c.in_ok-on_set.ensures c.asking-round.ensures
    (sym c.in-Some.ensures) c.in_ok-label.ensures c.advance.ensures
