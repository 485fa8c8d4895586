use Rattle.resource_reqs.specs.declared.kind.Kind.{Kind}
use Rattle.bridge_windows.specs.Rooms.{room_in}
use Rattle.bridge_windows.proofs.Levels.{Climbed}
use Rattle.bridge_windows.proofs.rooms.Rooms.below.Given as goal

abbrev pub invariant-levels : goal.invariant-levels
invariant-levels l = (kind : Kind) → Climbed l.bridges l.tree.nodes l.parent l.at kind (room_in l.rooms kind)

abbrev pub decreases-levels : goal.decreases-levels
decreases-levels l = l.at
