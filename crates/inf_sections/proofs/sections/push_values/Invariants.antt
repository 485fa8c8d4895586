use Rattle.std.proofs.Common.{length}
use Rattle.inf_sections.proofs.sections.push_values.Given as goal

abbrev pub decreases-loop-part : goal.decreases-loop-part
decreases-loop-part l = length l.rest
