use Rattle.std.proofs.Common.{◌≡◌, ◌+◌}
use Rattle.script_family.specs.Counts.{sums, count}
use Rattle.script_family.specs.Steps.{shape}
use Rattle.script_family.proofs.family.lines_of.Given as goal

abbrev pub invariant-loop-lines : goal.invariant-loop-lines
invariant-loop-lines l = sums (count (shape l.parts l.part)) l.lines + l.rest ≡ l.number
