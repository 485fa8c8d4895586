use Rattle.std.proofs.Common.{◌≡◌, ◌∙◌, Some, None, ap, sym, subst}
use Rattle.pnp_model.specs.Frames.{first_node}
use Rattle.devnode_tree.specs.Cores.{at_related}
use Rattle.query_remove.specs.Requests as removals
use Rattle.surprise_remove.specs.Requests as surprises
use Rattle.surprise_remove.specs.Steps.{DirectSays}
use Rattle.pnp_model.specs.Records.{Course, course_of}
use Rattle.pnp_machine.specs.Devices.{Devices}
use Rattle.pnp_machine.specs.Doings.{core_with}
use Rattle.pnp_machine.specs.Operations.{operation_of}
use Rattle.pnp_machine.specs.declared.operation.Operation.{Operation}
use Rattle.pnp_machine.proofs.Queries.{rebalance_told, removal_told, surprise_none, surprise_told}
use Rattle.pnp_machine.proofs.devices.Devices.query_of_operation.Goals as goal

pub request-requires-in-Surprising : goal.request-requires-in-Surprising
request-requires-in-Surprising c = λ course.
    let j = c.in-Surprising.surprise in
    let direct = subst (λ (o : Operation). course_of (operation_of o).kind ≡ Course.Surprising → DirectSays c.args.self.now.tree.nodes c.args.self.now.relations (operation_of o) (operation_of o).stage) c.in-Surprising.is c.requires in
    subst (λ (d : Devices). DirectSays d.tree.nodes d.relations j j.stage) (sym c.self.view_is) (direct course)

pub returns-in_err-walk-in-Surprising-clause-query : goal.returns-in_err-walk-in-Surprising-clause-query
returns-in_err-walk-in-Surprising-clause-query c = λ rack.
    let j = c.in-Surprising.surprise in
    rw (c.from_residual-in_err-walk-in-Surprising.ensures, c.in-Surprising.is)
    (surprise_none c.args.self.now j rack c.in_err-walk-in-Surprising.ensures.course
    (subst (λ (d : Devices). None ≡ surprises.request (at_related d.tree.nodes d.relations (core_with c.args.self.now rack)) j d.handles j.walk (first_node d.tree.nodes j.todo)) c.self.view_is (c.in_err-walk-in-Surprising.ensures.request (core_with c.args.self.now rack))))

pub returns-in_ok-first-in-Rebalancing-clause-query : goal.returns-in_ok-first-in-Rebalancing-clause-query
returns-in_ok-first-in-Rebalancing-clause-query c = λ rack.
    rw c.in-Rebalancing.is
    (rebalance_told c.args.self.now c.in-Rebalancing.rebalance rack c.in_ok-walk-in-Rebalancing.ensures.course c.in_ok-walk-in-Rebalancing.walk.walk c.in_ok-first-in-Rebalancing.field-0 _ c.in_ok-walk-in-Rebalancing.ensures.request
    c.in_ok-first-in-Rebalancing.ensures c.query_by.ensures.query)

pub returns-in_ok-first-in-Removing-clause-query : goal.returns-in_ok-first-in-Removing-clause-query
returns-in_ok-first-in-Removing-clause-query c = λ rack.
    let j = c.in-Removing.removal in
    let w = c.in_ok-walk-in-Removing.walk.walk in
    rw c.in-Removing.is
    (removal_told c.args.self.now j rack c.in_ok-walk-in-Removing.ensures.course w c.in_ok-first-in-Removing.field-0 _
    (subst (λ (d : Devices). Some w ≡ removals.request d.handles j j.walk (first_node d.tree.nodes j.todo)) c.self.view_is c.in_ok-walk-in-Removing.ensures.request)
    c.in_ok-first-in-Removing.ensures c.query_by-in-Removing.ensures.query)

pub returns-in_ok-first-in-Surprising-clause-query : goal.returns-in_ok-first-in-Surprising-clause-query
returns-in_ok-first-in-Surprising-clause-query c = λ rack.
    let j = c.in-Surprising.surprise in
    let w = c.in_ok-walk-in-Surprising.walk.walk in
    rw c.in-Surprising.is
    (surprise_told c.args.self.now j rack c.in_ok-walk-in-Surprising.ensures.course w c.in_ok-first-in-Surprising.field-0 _
    (subst (λ (d : Devices). Some w ≡ surprises.request (at_related d.tree.nodes d.relations (core_with c.args.self.now rack)) j d.handles j.walk (first_node d.tree.nodes j.todo)) c.self.view_is (c.in_ok-walk-in-Surprising.ensures.request (core_with c.args.self.now rack)))
    c.in_ok-first-in-Surprising.ensures c.query_by-in-Surprising.ensures.query)
