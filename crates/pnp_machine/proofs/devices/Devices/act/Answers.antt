use Rattle.std.proofs.Common.{◌≡◌, false, sym, subst}
use Rattle.pnp_model.specs.Cores.{node_at}
use Rattle.pnp_model.specs.Handles.{was_told}
use Rattle.operation_frame.proofs.Requests.{ok_then}
use Rattle.start_sequence.specs.Steps as starts
use Rattle.pnp_machine.specs.Devices.{Devices}
use Rattle.pnp_machine.specs.Doings.{core_with}
use Rattle.pnp_machine.proofs.ActSteps.{nodes_alone}
use Rattle.pnp_machine.proofs.Joins.{kept_acted}
use Rattle.pnp_machine.proofs.OneNode.{here_acted}
use Rattle.pnp_machine.proofs.devices.Devices.act.Goals as goal

pub invariant_of-self : goal.invariant_of-self
invariant_of-self g c =
    let s = c.self.inside in
    kept_acted s.world s.tree c.next.new.tree s.reserved s.arbiters c.next.new.arbiters s.over s.from s.whole s.whole c.self.invariant c.next.ensures.keeps
    (λ k e. here_acted s.world.devices k s.reserved s.arbiters c.args.work.now.serial s.tree c.next.new.tree (subst (λ (d : Devices). was_told (node_at c.args.work.now.serial d.tree.nodes) ≡ false) (sym c.self.view_is) c.requires.untold) (c.self.invariant.here k e) c.args.budget (g.R.Drivers.rows c.args.rack.now) (g.R.Drivers.rows c.next.new.rack)
    c.args.work.now.phase c.next.new.self.phase c.next.result c.self.invariant.mirrors c.next.ensures.acts c.next.ensures.tree)
    (c.next.ensures.mirrors s.reserved c.self.invariant.mirrors)

pub returns-clause-acts : goal.returns-clause-acts
returns-clause-acts g c =
    let s = c.self.inside in
    let ds : Devices = record { world = s.world; tree = s.tree; relations = s.relations; reserved = s.reserved; windows = s.bridges; handles = s.handles } in
    let rack = g.R.Drivers.rows c.args.rack.now in
    let work = c.args.work.now in
    rw (← c.self.view_is)
    (ok_then (λ step. starts.Acts c.args.budget s.arbiters work.serial s.tree.nodes rack work.phase step c.next.new.tree.nodes (g.R.Drivers.rows c.next.new.rack) c.next.new.self.phase) _
    (λ step h. (h (core_with ds rack) c.self.invariant.mirrors, nodes_alone ds c.next.new.tree c.next.ensures.next)) c.next.result c.next.ensures.acts)
