use Rattle.std.proofs.Common.{◌≡◌, ◌++◌}
use Rattle.devnode_tree.specs.Counts.{handles_of}
use Rattle.devnode_tree.proofs.handles.Handles.rows.Given as goal

abbrev pub invariant-loop-serial : goal.invariant-loop-serial
invariant-loop-serial l = l.rows.items ++ handles_of l.serial-iterator ≡ l.self
