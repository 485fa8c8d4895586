use Rattle.std.proofs.Common.{◌≤◌, ◌-◌}
use Rattle.script_family.proofs.ways.Ways.grow.Given as goal

abbrev pub invariant-loop-self : goal.invariant-loop-self
invariant-loop-self l = l.initial.self ≤ l.self

abbrev pub decreases-loop-self : goal.decreases-loop-self
decreases-loop-self l = l.rows - l.self
