use Rattle.std.proofs.Common.{ℕ, Option, Some, sym, ◌∙◌, subst}
use Rattle.pnp_labels.specs.declared.label.Label.{Label}
use Rattle.notify_front.specs.Desks.{front_of, told_of}
use Rattle.free_front.specs.FreeFronts.{FrontMovesBy}
use Rattle.trace_check.specs.Turns.{IfStands}
use Rattle.front_check.proofs.Turning.{line_refused, step_refused, step_taken}
use Rattle.front_check.proofs.step.take_step.Goals as goal

pub returns-in_default-clause-finds : goal.returns-in_default-clause-finds
returns-in_default-clause-finds c = λ script. line_refused (told_of c.args.run.now) (front_of c.args.run.now) script c.args.rest.now c.args.lines (sym c.answer_of.ensures ∙ c.in_default.is)

pub returns-in-Some-standing-clause-finds : goal.returns-in-Some-standing-clause-finds
returns-in-Some-standing-clause-finds c =
    let told = told_of c.args.run.now in
    let old = front_of c.args.run.now in
    let new = front_of c.step.new.self in
    let moved : FrontMovesBy c.in-Some.answer told old (Some c.in-Some-2.label) new = subst (λ (o : Option Label). FrontMovesBy c.in-Some.answer told old o new) c.in-Some-2.is c.in_ok-label.ensures.moves in
    step_taken told c.in-Some.answer old new moved.0 c.in-Some-2.label c.in_ok-line.line.items c.args.rest.now c.in-Some-standing.count c.args.lines moved.1 moved.2 c.in_ok-line.ensures
    (λ text is. subst (λ (o : Option ℕ). IfStands o c.args.rest.now text) c.in-Some-standing.is (c.standing.ensures text (c.deref.ensures.value ∙ is)))

pub returns-clause-finds : goal.returns-clause-finds
returns-clause-finds c =
    let told = told_of c.args.run.now in
    let old = front_of c.args.run.now in
    let new = front_of c.step.new.self in
    let moved : FrontMovesBy c.in-Some.answer told old (Some c.in-Some-2.label) new = subst (λ (o : Option Label). FrontMovesBy c.in-Some.answer told old o new) c.in-Some-2.is c.in_ok-label.ensures.moves in
    step_refused told c.in-Some.answer old new moved.0 c.in-Some-2.label c.in_ok-line.line.items c.args.rest.now c.args.lines (sym c.answer_of.ensures ∙ c.in-Some.is) moved.1 moved.2 c.in_ok-line.ensures
    (λ text is. subst (λ (o : Option ℕ). IfStands o c.args.rest.now text) c.in_default-standing.is (c.standing.ensures text (c.deref.ensures.value ∙ is)))
    (c.in_ok-could_be_other.ensures c.if-branch.false)
