use Rattle.front_check.proofs.Dues.{rest_over}
use Rattle.front_check.proofs.due.lines_alike.Goals as goal

pub returns-else-at-rest-clause-value : goal.returns-else-at-rest-clause-value
returns-else-at-rest-clause-value c = rest_over c.args.due.now c.args.rest.now c.loop-at.at c.loop-at.lines c.if-at-rest.false c.loop-at.invariant.same
