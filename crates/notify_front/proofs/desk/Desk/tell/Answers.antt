use Rattle.std.proofs.Common.{◌∙◌, ap, sym}
use Rattle.notify_front.specs.Hands.{after_last}
use Rattle.notify_front.proofs.DeskMoves.{tell_goes}
use Rattle.notify_front.proofs.desk.Desk.tell.Goals as goal

pub returns-clause-moves : goal.returns-clause-moves
returns-clause-moves g c =
    let rs = c.self.inside.registrations in
    tell_goes c.self.inside.manager rs c.self.inside.round c.args.self.now c.self.view_is c.in-Some.client.now c.in_ok-label.label c.heard.new.self c.advance.new.self
    (sym c.in-Some.ensures) c.in_ok-label.ensures (c.heard.ensures ∙ ap (λ b. after_last b c.in-Some.client.now rs) c.is_ended.ensures) c.advance.ensures
