use Rattle.std.proofs.Common.{length}
use Rattle.devnode_tree.specs.Walks.{ahead}
use Rattle.devnode_tree.proofs.Walking.{IsDown}
use Rattle.devnode_tree.proofs.handle_walk.HandleWalk.is_open.Given as goal

abbrev pub invariant-down : goal.invariant-down
invariant-down l = IsDown l.self-inside.rest l.self-inside.head l.fn.self l.serial

abbrev pub decreases-down : goal.decreases-down
decreases-down l = length (ahead l.self-inside.rest l.self-inside.head)
