use Rattle.std.proofs.Common.{◌∙◌, ap}
use Rattle.pnp_model.specs.Cores.{node_at}
use Rattle.pnp_machine.specs.Devices.{Devices, is_gone_at}
use Rattle.pnp_machine.proofs.Departures.{gone_here, gone_unless, stays_here}
use Rattle.pnp_machine.proofs.devices.Devices.is_gone.Goals as goal

pub returns-then-not-stays-clause-gone : goal.returns-then-not-stays-clause-gone
returns-then-not-stays-clause-gone c =
    let ds = c.args.self.now in
    let tasks = c.args.tasks.now.tasks in
    let at = c.in-Some.ensures.node ∙ ap (λ (d : Devices). node_at c.args.serial d.tree.nodes) c.self.view_is in
    gone_unless c.stays.result c.has_surprise.result (is_gone_at ds tasks c.args.serial) c.if-not-stays.true
    (gone_here ds tasks c.args.serial c.in-Some.node.now c.stays.result c.has_surprise.result at c.stays.ensures c.has_surprise.ensures)

pub returns-else-not-stays-clause-gone : goal.returns-else-not-stays-clause-gone
returns-else-not-stays-clause-gone c =
    let at = c.in-Some.ensures.node ∙ ap (λ (d : Devices). node_at c.args.serial d.tree.nodes) c.self.view_is in
    stays_here c.args.self.now c.args.tasks.now.tasks c.args.serial c.in-Some.node.now c.stays.result at c.stays.ensures c.if-not-stays.false
