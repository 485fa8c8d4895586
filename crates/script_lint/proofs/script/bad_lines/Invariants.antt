use Rattle.std.proofs.Common.{◌≡◌, ◌≤◌, ◌+◌, ◌++◌, length, map}
use Rattle.device_ids.specs.Cuts.{parts}
use Rattle.script_lint.specs.Script.{told, faults_from, faults_in}
use Rattle.script_lint.proofs.script.bad_lines.Given as goal

abbrev pub invariant-loop-line : goal.invariant-loop-line
invariant-loop-line l = (l.number + length l.rest ≤ length l.script) × (map told l.bad.items ++ faults_from l.number (parts 10 l.rest) ≡ faults_in l.script)

abbrev pub decreases-loop-line : goal.decreases-loop-line
decreases-loop-line l = length l.rest
