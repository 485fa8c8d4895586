use Rattle.std.proofs.Common.{◌≤◌, ◌+◌, ◌-◌, ◌∙◌, ap, subst, sym, length, arith}
use Rattle.notify_front.specs.Hands.{IsInside, hand_of, moved_on}
use Rattle.notify_front.specs.declared.round.Stage.{Stage}
use Rattle.notify_front.proofs.Rounds.{cancelled_on, vetoed_on, ended_on}
use Rattle.notify_front.proofs.round.Round.advance.Goals as goal

pub returns-in-Cancelling : goal.returns-in-Cancelling
returns-in-Cancelling c =
    let told = c.self.inside.told.items in
    let at = c.self.inside.at in
    let w = c.in-Cancelling in
    let inside = subst (λ (s : Stage). IsInside s told at) w.is c.self.invariant in
    let le : w.left ≤ length told = omega (arith, inside.0, inside.1) in
    cancelled_on w.kind w.serial told at w.left le ∙ ap moved_on (ap (λ (s : Stage). hand_of s told at) (sym w.is) ∙ c.self.view_is)

pub returns-in-Vetoed : goal.returns-in-Vetoed
returns-in-Vetoed c =
    let told = c.self.inside.told.items in
    let at = c.self.inside.at in
    let w = c.in-Vetoed in
    let inside = subst (λ (s : Stage). IsInside s told at) w.is c.self.invariant in
    ap (λ (s : Stage). hand_of s told (at - 1)) w.is
    ∙ vetoed_on told at inside ∙ ap moved_on (ap (λ (s : Stage). hand_of s told at) (sym w.is) ∙ c.self.view_is)

pub returns-in-Ended : goal.returns-in-Ended
returns-in-Ended c =
    let told = c.self.inside.told.items in
    let at = c.self.inside.at in
    let w = c.in-Ended in
    ap (λ (s : Stage). hand_of s told (at + 1)) w.is
    ∙ ended_on told at ∙ ap moved_on (ap (λ (s : Stage). hand_of s told at) (sym w.is) ∙ c.self.view_is)
