use Rattle.std.proofs.Common.{◌≡◌, ℕ, List}
use Rattle.notify_front.specs.Desks.{front_of, told_of}
use Rattle.notify_front.proofs.FrontLeft.{front_steps_left}
use Rattle.script_play.specs.Playing.{Playing}
use Rattle.explore_report.specs.Expectations.{HasSeen}
use Rattle.explore_cli.specs.Playing.{SawPlayed}
use Rattle.explore_cli.proofs.player.see_steps.Given as goal

abbrev pub invariant-steps : goal.invariant-steps
invariant-steps g l = record {
  reading : l.play.reading ≡ l.initial.play.reading;
  settings : told_of l.play.desk ≡ told_of l.initial.play.desk;
  saw : (start : Playing) → SawPlayed start l.expected l.initial.play l.initial.seen → SawPlayed start l.expected l.play l.seen;
  seen : (lines : List (List ℕ)) × HasSeen l.expected lines l.seen;
}

abbrev pub decreases-steps : goal.decreases-steps
decreases-steps g l = front_steps_left (told_of l.play.desk) (front_of l.play.desk)
