use Rattle.std.proofs.Common.{◌≡◌}
use Rattle.script_family.specs.Counts.{sums, count, capped}
use Rattle.script_family.specs.Steps.{shape}
use Rattle.script_family.proofs.family.total_of.Given as goal

abbrev pub invariant-loop-lines : goal.invariant-loop-lines
invariant-loop-lines l = l.sum ≡ capped (sums (count (shape l.parts l.part)) l.lines)
