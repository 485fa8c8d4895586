use Rattle.std.proofs.Common.{◌≡◌, ℕ, List, length}
use Rattle.notify_front.specs.Desks.{told_of}
use Rattle.script_play.specs.Playing.{Playing}
use Rattle.explore_report.specs.Expectations.{HasSeen}
use Rattle.explore_cli.specs.Playing.{SawPlayed}
use Rattle.explore_cli.proofs.player.see_all.Given as goal

abbrev pub invariant-events : goal.invariant-events
invariant-events g l = record {
  settings : told_of l.play.desk ≡ told_of l.initial.play.desk;
  saw : (start : Playing) → SawPlayed start l.expected l.initial.play l.initial.seen → SawPlayed start l.expected l.play l.seen;
  seen : (lines : List (List ℕ)) × HasSeen l.expected lines l.seen;
}

abbrev pub decreases-events : goal.decreases-events
decreases-events g l = length l.play.reading.rest
