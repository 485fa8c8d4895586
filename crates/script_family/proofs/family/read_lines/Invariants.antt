use Rattle.std.proofs.Common.{length}
use Rattle.script_family.specs.Loops.{AtLine}
use Rattle.script_family.proofs.family.read_lines.Given as goal

abbrev pub invariant-loop-line : goal.invariant-loop-line
invariant-loop-line l = AtLine l.text l.rest l.passed l.draft

abbrev pub decreases-loop-line : goal.decreases-loop-line
decreases-loop-line l = length l.rest
