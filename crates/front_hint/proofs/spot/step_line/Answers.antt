use Rattle.std.proofs.Common.{Option, Some, None, [], ◌∷◌, ◌++◌, ◌∙◌, ap, subst}
use Rattle.pnp_labels.specs.Texts.{label_line}
use Rattle.pnp_labels.specs.declared.label.Label.{Label}
use Rattle.notify_front.specs.Desks.{front_of, told_of}
use Rattle.free_front.specs.FreeFronts.{FrontMovesBy}
use Rattle.front_hint.proofs.spot.step_line.Goals as goal

pub returns-in_default-clause-steps : goal.returns-in_default-clause-steps
returns-in_default-clause-steps c =
    subst (λ (o : Option Label). FrontMovesBy c.args.answer (told_of c.args.run.now) (front_of c.args.run.now) o (front_of c.step.new.self)) c.in_default.is c.in_ok-label.ensures.moves

pub returns-clause-steps : goal.returns-clause-steps
returns-clause-steps c =
    let moved : FrontMovesBy c.args.answer (told_of c.args.run.now) (front_of c.args.run.now) (Some c.in-Some.label) (front_of c.step.new.self) =
    subst (λ (o : Option Label). FrontMovesBy c.args.answer (told_of c.args.run.now) (front_of c.args.run.now) o (front_of c.step.new.self)) c.in-Some.is c.in_ok-label.ensures.moves
    in
    (moved.0, moved.2, c.in_ok-line.ensures ∙ ap (λ (l : Label). label_line l ++ 10 ∷ []) moved.1)
