use Rattle.std.proofs.Common.{refl, ◌∙◌, ◌++◌}
use Rattle.view_trace.specs.Rows.{rows}
use Rattle.view_cli.proofs.Viewing.{drawing_event, drawn_by}
use Rattle.view_cli.proofs.drawing.draw_all.Goals as goal

pub events-init : goal.events-init
events-init g c = record { drawing = λ start w. w; elements = refl }

pub events-preserved : goal.events-preserved
events-preserved g c = record {
  drawing = λ start w.
      drawing_event start c.draw_steps.new.play c.event.new.self (c.draw_steps.new.page.marks ++ rows c.draw_steps.new.sketch.rows) (c.draw_event.new.page.marks ++ rows c.draw_event.new.sketch.rows) c.draw_steps.new.sketch.states c.draw_event.new.sketch.states
      c.in_ok-happened.field-0 c.in-Some.happened c.in-Some.is (c.in_ok-happened.ensures.played start) c.in_ok-happened.ensures.settings c.in_ok-draw_event-in-Some.ensures.marks c.in_ok-draw_event-in-Some.ensures.states (c.in_ok-draw_steps.ensures.drawing start (c.events.invariant.drawing start w));
  elements = c.in_ok-draw_event-in-Some.ensures.elements ∙ c.in_ok-draw_steps.ensures.elements ∙ c.events.invariant.elements;
}

pub returns-in-None-clause-drawn : goal.returns-in-None-clause-drawn
returns-in-None-clause-drawn g c = λ start w.
    drawn_by start c.draw_steps.new.play c.event.new.self (c.draw_steps.new.page.marks ++ rows c.draw_steps.new.sketch.rows) c.draw_steps.new.sketch.states c.in_ok-happened.field-0 c.in-None.is
    (c.in_ok-happened.ensures.played start) (c.in_ok-draw_steps.ensures.drawing start (c.events.invariant.drawing start w))
