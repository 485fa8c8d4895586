use Rattle.std.proofs.Common.{length}
use Rattle.script_play.specs.Playing.{Playing}
use Rattle.why_cli.specs.Explained.{Writing}
use Rattle.why_cli.proofs.telling.tell_all.Given as goal

abbrev pub invariant-events : goal.invariant-events
invariant-events g l = (start : Playing) → Writing start l.initial.text.items l.initial.play → Writing start l.text.items l.play

abbrev pub decreases-events : goal.decreases-events
decreases-events g l = length l.play.reading.rest
