use Rattle.std.proofs.Common.{IfOk, None, subst}
use Rattle.operation_frame.proofs.Requests.{ok_then}
use Rattle.rebalance.specs.Steps as rebalances
use Rattle.pnp_machine.specs.Devices.{Devices}
use Rattle.pnp_machine.specs.Doings.{Rebalances, core_with}
use Rattle.pnp_machine.proofs.ActSteps.{beside_stays}
use Rattle.pnp_machine.proofs.Joins.{kept_acted}
use Rattle.pnp_machine.proofs.devices.Devices.rebalance.Goals as goal

pub invariant_of-self : goal.invariant_of-self
invariant_of-self g c =
    let s = c.self.inside in
    kept_acted s.world s.tree c.next.new.tree s.reserved s.arbiters c.next.new.arbiters s.over s.from s.whole None c.self.invariant c.next.ensures.keeps (λ k e. absurd (cc))
    (c.next.ensures.mirrors s.reserved c.self.invariant.mirrors)

pub returns-clause-rebalances : goal.returns-clause-rebalances
returns-clause-rebalances g c =
    let s = c.self.inside in
    let ds : Devices = record { world = s.world; tree = s.tree; relations = s.relations; reserved = s.reserved; windows = s.bridges; handles = s.handles } in
    let rack = g.R.Drivers.rows c.args.rack.now in
    let later = g.R.Drivers.rows c.next.new.rack in
    let r = c.args.rebalance.now in
    let new : Devices = record { world = s.world; tree = c.next.new.tree; relations = s.relations; reserved = s.reserved; windows = s.bridges; handles = s.handles } in
    subst (λ (d : Devices). IfOk c.next.result (λ step. Rebalances c.args.budget d rack r step new later c.next.new.self)) c.self.view_is
    (ok_then (λ step. rebalances.Rebalances s.tree.nodes s.arbiters rack r c.args.budget step c.next.new.tree.nodes later c.next.new.self) (λ step. Rebalances c.args.budget ds rack r step new later c.next.new.self)
    (λ step h. ((λ in_world. h (core_with ds rack) in_world s.handles c.self.invariant.mirrors), beside_stays ds c.next.new.tree s.relations c.next.ensures.next)) c.next.result c.next.ensures.rebalances)
