use Rattle.std.proofs.Common.{◌≡◌, ◌++◌, length}
use Rattle.script_play.specs.Playing.{Playing}
use Rattle.view_trace.specs.Rows.{rows}
use Rattle.view_cli.specs.Viewed.{Drawing}
use Rattle.view_cli.proofs.drawing.draw_all.Given as goal

abbrev pub invariant-events : goal.invariant-events
invariant-events g l = record {
  drawing : (start : Playing) → Drawing start (l.initial.page.marks ++ rows l.initial.sketch.rows) l.initial.sketch.states l.initial.play → Drawing start (l.page.marks ++ rows l.sketch.rows) l.sketch.states l.play;
  elements : l.page.elements ≡ l.initial.page.elements;
}

abbrev pub decreases-events : goal.decreases-events
decreases-events g l = length l.play.reading.rest
