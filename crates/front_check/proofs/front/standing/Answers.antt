use Rattle.std.proofs.Common.{Bool, false, subst}
use Rattle.trace_check.specs.Turns.{IfFront}
use Rattle.front_check.proofs.Fronts.{not_standing}
use Rattle.front_check.proofs.front.standing.Goals as goal

pub returns-else-begins_with : goal.returns-else-begins_with
returns-else-begins_with c =
    let front : IfFront false c.args.rest.now c.args.line.now = subst (λ (b : Bool). IfFront b c.args.rest.now c.args.line.now) c.if-begins_with.false c.begins_with.ensures in
    λ text is. not_standing c.args.rest.now c.args.line.now text is front
