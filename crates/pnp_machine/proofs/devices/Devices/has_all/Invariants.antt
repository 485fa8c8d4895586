use Rattle.std.proofs.Common.{◌≡◌, ◌<◌, drop, find}
use Rattle.devnode_tree.specs.Trees.{IsTree}
use Rattle.pnp_machine.proofs.Departures.{is_lost}
use Rattle.pnp_machine.proofs.devices.Devices.has_all.Given as goal

abbrev pub invariant-loop-child : goal.invariant-loop-child
invariant-loop-child l =
    (find (is_lost l.self) (drop l.child-index l.child-items) ≡ find (is_lost l.self) l.child-items)
    × (0 < l.child-index → IsTree l.self.tree)
