use Rattle.std.proofs.Common.{length}
use Rattle.why_cli.proofs.script_lines.first_event.Given as goal

abbrev pub decreases-loop-line : goal.decreases-loop-line
decreases-loop-line l = length l.rest
