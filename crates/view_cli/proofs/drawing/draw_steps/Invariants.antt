use Rattle.std.proofs.Common.{◌≡◌, ◌++◌}
use Rattle.notify_front.specs.Desks.{front_of, told_of}
use Rattle.notify_front.proofs.FrontLeft.{front_steps_left}
use Rattle.script_play.specs.Playing.{Playing}
use Rattle.view_trace.specs.Rows.{rows}
use Rattle.view_cli.specs.Viewed.{Drawing}
use Rattle.view_cli.proofs.drawing.draw_steps.Given as goal

abbrev pub invariant-steps : goal.invariant-steps
invariant-steps g l = record {
  drawing : (start : Playing) → Drawing start (l.initial.page.marks ++ rows l.initial.sketch.rows) l.initial.sketch.states l.initial.play → Drawing start (l.page.marks ++ rows l.sketch.rows) l.sketch.states l.play;
  elements : l.page.elements ≡ l.initial.page.elements;
  reading : l.play.reading ≡ l.initial.play.reading;
}

abbrev pub decreases-steps : goal.decreases-steps
decreases-steps g l = front_steps_left (told_of l.play.desk) (front_of l.play.desk)
