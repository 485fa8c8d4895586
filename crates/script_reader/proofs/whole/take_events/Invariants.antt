use Rattle.std.proofs.Common.{length}
use Rattle.script_reader.proofs.Taking.{TakesOn}
use Rattle.script_reader.proofs.whole.take_events.Given as goal

abbrev pub invariant-events : goal.invariant-events
invariant-events l = TakesOn l.initial.reader l.reader l.initial.lines.items l.lines.items

abbrev pub decreases-events : goal.decreases-events
decreases-events l = length l.reader.rest
