use Rattle.std.proofs.Common.{◌≡◌, ◌<◌, drop, find}
use Rattle.devnode_tree.specs.Trees.{IsTree}
use Rattle.pnp_machine.specs.Devices.{is_gone_at}
use Rattle.pnp_machine.proofs.devices.Devices.first_gone.Given as goal

abbrev pub invariant-loop-child : goal.invariant-loop-child
invariant-loop-child l =
    (find (is_gone_at l.self l.tasks.tasks) (drop l.child-index l.child-items) ≡ find (is_gone_at l.self l.tasks.tasks) l.child-items)
    × (0 < l.child-index → IsTree l.self.tree)
