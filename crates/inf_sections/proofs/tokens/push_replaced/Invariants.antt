use Rattle.std.proofs.Common.{length}
use Rattle.inf_sections.proofs.tokens.push_replaced.Given as goal

abbrev pub decreases-loop-plain : goal.decreases-loop-plain
decreases-loop-plain l = length l.rest
