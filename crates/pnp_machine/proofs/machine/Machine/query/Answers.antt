use Rattle.std.proofs.Common.{◌≡◌, ◌∙◌, Option, Some, None, IfSome, ap, sym, subst, option_map}
use Rattle.pnp_model.specs.Cores.{node_at}
use Rattle.pnp_model.specs.Records.{State}
use Rattle.free_model.specs.Asks as asks
use Rattle.free_model.specs.Asks.{next_query}
use Rattle.pnp_machine.specs.Queries.{query_of}
use Rattle.pnp_machine.specs.declared.query.Query.{Query}
use Rattle.pnp_machine.proofs.Asked.{directly, named_if, nobody_told, operation_told, ready_goes, ready_there, start_told}
use Rattle.pnp_machine.proofs.machine.Machine.query.Goals as goal

pub query_of_operation-requires : goal.query_of_operation-requires
query_of_operation-requires g c =
    let s = c.self.inside in
    directly s.devices (g.R.Drivers.rows s.rack) s.disabled.paths s.starts.works s.tasks.tasks c.args.self.now c.requires s.operation c.self.view_is c.in-Some.operation c.in-Some.is

-- what the operation tells
operation_asks : goal.returns-in-Some-clause-query
operation_asks g c =
    let s = c.self.inside in
    operation_told s.devices (g.R.Drivers.rows s.rack) s.disabled.paths s.starts.works s.tasks.tasks c.args.self.now c.requires s.operation c.self.view_is c.in-Some.operation c.in-Some.is _
    (c.query_of_operation.ensures.query (g.R.Drivers.rows s.rack))

pub returns-in-Some-clause-query : goal.returns-in-Some-clause-query
returns-in-Some-clause-query g c = operation_asks g c

pub returns-in-Some-clause-node : goal.returns-in-Some-clause-node
returns-in-Some-clause-node g c =
    subst (λ (s : State). IfSome c.query_of_operation.result (λ (q : Query). node_at q.node.now.serial s.core.nodes ≡ Some q.node.now)) c.self.view_is c.query_of_operation.ensures.node

pub returns-in-Some-clause-named : goal.returns-in-Some-clause-named
returns-in-Some-clause-named g c = named_if c.args.self.now c.requires c.query_of_operation.result (operation_asks g c)

pub returns-in_err-serial-clause-query : goal.returns-in_err-serial-clause-query
returns-in_err-serial-clause-query g c =
    let s = c.self.inside in
    rw c.from_residual.ensures
    (nobody_told s.devices (g.R.Drivers.rows s.rack) s.disabled.paths s.starts.works s.tasks.tasks c.args.self.now c.requires s.operation c.self.view_is c.in_default.is (sym c.in_err-serial.ensures.first))

pub returns-in_err-work-clause-query : goal.returns-in_err-work-clause-query
returns-in_err-work-clause-query g c =
    absurd (ready_there c.self.inside.starts.works c.in_ok-serial.serial c.in_ok-serial.ensures.order (sym c.in_ok-serial.ensures.first) (sym c.in_err-work.ensures))

pub query_of_start-requires : goal.query_of_start-requires
query_of_start-requires g c =
    ready_goes c.self.inside.starts.works c.in_ok-serial.serial c.in_ok-work.work.now c.in_ok-serial.ensures.order (sym c.in_ok-serial.ensures.first) (sym c.in_ok-work.ensures)

-- what the start tells
start_asks : goal.returns-clause-query
start_asks g c =
    let s = c.self.inside in
    start_told s.devices (g.R.Drivers.rows s.rack) s.disabled.paths s.starts.works s.tasks.tasks c.args.self.now c.requires s.operation c.self.view_is c.in_default.is c.in_ok-serial.serial c.in_ok-work.work.now
    c.in_ok-serial.ensures.order (sym c.in_ok-serial.ensures.first) (sym c.in_ok-work.ensures) _ c.query_of_start.ensures.query

pub returns-clause-query : goal.returns-clause-query
returns-clause-query g c = start_asks g c

pub returns-clause-node : goal.returns-clause-node
returns-clause-node g c =
    subst (λ (s : State). IfSome c.query_of_start.result (λ (q : Query). node_at q.node.now.serial s.core.nodes ≡ Some q.node.now)) c.self.view_is c.query_of_start.ensures.node

pub returns-clause-named : goal.returns-clause-named
returns-clause-named g c = named_if c.args.self.now c.requires c.query_of_start.result (start_asks g c)
