use Rattle.std.proofs.Common.{◌∙◌, ◌++◌, ap, append-nil}
use Rattle.view_trace.specs.Rows.{rows}
use Rattle.view_cli.proofs.Viewing.{drawing_none, finished_by}
use Rattle.view_cli.proofs.viewed.draw_play.Goals as goal

pub returns-clause-finished : goal.returns-clause-finished
returns-clause-finished g c =
    finished_by c.args.steps c.args.play.now c.draw_all.new.play (c.draw_all.new.page.marks ++ rows c.draw_all.new.sketch.rows) c.end_rows.new.page.marks c.draw_bad.new.page.marks c.draw_rest.new.page.marks c.draw_ending.new.page.marks
    c.draw_states.new.page.marks c.close.new.self.marks c.draw_all.new.sketch.states c.end_rows.new.self.states c.bad_line-bad.result c.deref.result.now
    (c.in_ok-draw_all.ensures.drawn c.args.play.now
    (drawing_none c.args.play.now (c.begin.new.page.marks ++ rows c.new-sketch.result.rows) c.new-sketch.result.states
    (ap (λ r. c.begin.new.page.marks ++ rows r) c.new-sketch.ensures.rows ∙ append-nil c.begin.new.page.marks ∙ c.in_ok-begin.ensures.marks ∙ c.requires.marks) c.new-sketch.ensures.states c.requires.played))
    c.end_rows.ensures.states c.bad_line-bad.ensures (c.deref.ensures.value ∙ c.in_ok-ending.ensures) c.in_ok-end_rows.ensures.marks c.in_ok-draw_bad.ensures.marks c.in_ok-draw_rest.ensures.marks c.in_ok-draw_ending.ensures.marks
    c.in_ok-draw_states.ensures.marks c.in_ok-close.ensures.marks
