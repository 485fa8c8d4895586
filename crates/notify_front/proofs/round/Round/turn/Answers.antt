use Rattle.std.proofs.Common.{◌∙◌, ap, sym}
use Rattle.notify_front.specs.Hands.{hand_of}
use Rattle.notify_front.specs.declared.round.Stage.{Stage}
use Rattle.notify_front.proofs.Rounds.{agreed_all, cancelled_all, none_copied}
use Rattle.notify_front.proofs.round.Round.turn.Goals as goal

pub returns-in-Asking : goal.returns-in-Asking
returns-in-Asking c =
    let told = c.self.inside.told.items in
    let at = c.self.inside.at in
    let w = c.in-Asking in
    agreed_all w.kind w.serial told at c.args.self.now (ap (λ (s : Stage). hand_of s told at) (sym w.is) ∙ c.self.view_is)
    (sym c.next.ensures ∙ none_copied c.next.result (sym c.is_some.ensures ∙ c.if-is_some.false))

pub returns-in-Cancelling : goal.returns-in-Cancelling
returns-in-Cancelling c =
    let told = c.self.inside.told.items in
    let at = c.self.inside.at in
    let w = c.in-Cancelling in
    cancelled_all w.kind w.serial told at w.left c.args.self.now (ap (λ (s : Stage). hand_of s told at) (sym w.is) ∙ c.self.view_is)
    (sym c.next.ensures ∙ none_copied c.next.result (sym c.is_some.ensures ∙ c.if-is_some.false))
