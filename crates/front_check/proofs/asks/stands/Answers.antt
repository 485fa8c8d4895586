use Rattle.std.proofs.Common.{◌∙◌, subst}
use Rattle.trace_check.specs.Turns.{IfFront}
use Rattle.front_check.proofs.asks.stands.Goals as goal

pub returns : goal.returns
returns c = subst (IfFront c.begins_with.result c.args.rest.now) (c.deref.ensures.value ∙ c.in_ok-line.ensures) c.begins_with.ensures
