use Rattle.std.proofs.Common.{◌∙◌, ap, arith}
use Rattle.devnode_tree.specs.Entries.{child_serials}
use Rattle.script_bus.proofs.Joining.{none_found}
use Rattle.pnp_machine.specs.Devices.{Devices}
use Rattle.pnp_machine.proofs.Departures.{is_lost, all_here}
use Rattle.pnp_machine.proofs.devices.Devices.has_all.Goals as goal

pub returns : goal.returns
returns c =
    let ds = c.args.self.now in
    let ks = c.children-child-items.result.now in
    let at = c.loop-child.child-index in
    λ e. all_here ds c.args.serial ks (c.children-child-items.ensures ∙ ap (λ (x : Devices). child_serials x.tree.nodes c.args.serial) c.self.view_is)
    (λ some. c.loop-child.invariant.1 (omega arith))
    (none_found (is_lost ds) ks at (omega arith) c.loop-child.invariant.0)
