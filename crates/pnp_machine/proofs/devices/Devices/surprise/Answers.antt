use Rattle.std.proofs.Common.{IfOk, subst}
use Rattle.pnp_model.specs.Records.{Course}
use Rattle.operation_frame.specs.Steps.{JobSteps}
use Rattle.operation_frame.proofs.Requests.{ok_then}
use Rattle.pnp_machine.specs.Devices.{Devices}
use Rattle.pnp_machine.specs.Doings.{Removes, core_with}
use Rattle.pnp_machine.proofs.ActSteps.{beside_stays}
use Rattle.pnp_machine.proofs.devices.Devices.surprise.Goals as goal

pub returns-clause-removes : goal.returns-clause-removes
returns-clause-removes g c =
    let s = c.self.inside in
    let ds : Devices = record { world = s.world; tree = s.tree; relations = s.relations; reserved = s.reserved; windows = s.bridges; handles = s.handles } in
    let rack = g.R.Drivers.rows c.args.rack.now in
    let later = g.R.Drivers.rows c.next.new.rack in
    let new : Devices = record { world = s.world; tree = c.next.new.tree; relations = c.next.new.relations; reserved = s.reserved; windows = s.bridges; handles = s.handles } in
    let j = c.args.surprise.now in
    subst (λ (d : Devices). IfOk c.next.result (λ step. Removes Course.Surprising d rack c.args.in_world j step new later c.next.new.self)) c.self.view_is
    (ok_then (λ step. JobSteps Course.Surprising s.tree.nodes s.relations rack c.args.in_world s.handles j step c.next.new.tree.nodes c.next.new.relations later c.next.new.self)
    (λ step. Removes Course.Surprising ds rack c.args.in_world j step new later c.next.new.self)
    (λ step h. (h (core_with ds rack), beside_stays ds c.next.new.tree c.next.new.relations c.next.ensures.next)) c.next.result c.next.ensures.surprises)
