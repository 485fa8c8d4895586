use Rattle.std.proofs.Common.{refl, ◌∙◌, ◌++◌}
use Rattle.view_trace.specs.Rows.{rows}
use Rattle.view_cli.proofs.Viewing.{drawing_step, drawing_still, stepped_still, fewer_steps, reading_same}
use Rattle.view_cli.proofs.drawing.draw_steps.Goals as goal

pub steps-init : goal.steps-init
steps-init g c = record { drawing = λ start w. w; elements = refl; reading = refl }

pub steps-smaller : goal.steps-smaller
steps-smaller g c = fewer_steps c.steps.play c.step.new.self c.in_ok-label.field-0 c.in-Some.label c.in-Some.is c.in_ok-label.ensures.moves

pub steps-preserved : goal.steps-preserved
steps-preserved g c =
    record {
      drawing = λ start w.
          drawing_step start c.steps.play c.step.new.self (c.steps.page.marks ++ rows c.steps.sketch.rows) (c.draw_label.new.page.marks ++ rows c.draw_label.new.sketch.rows) c.steps.sketch.states c.draw_label.new.sketch.states
          c.in_ok-label.field-0 c.in-Some.label c.in-Some.is (c.in_ok-label.ensures.played start) c.in_ok-label.ensures.settings c.in_ok-draw_label-in-Some.ensures.marks c.in_ok-draw_label-in-Some.ensures.states
          (c.steps.invariant.drawing start w);
      elements = c.in_ok-draw_label-in-Some.ensures.elements ∙ c.steps.invariant.elements;
      reading = reading_same c.steps.play c.step.new.self c.in_ok-label.field-0 c.in-Some.label c.in-Some.is c.in_ok-label.ensures.moves ∙ c.steps.invariant.reading;
    }

pub returns-in-None-clause-drawing : goal.returns-in-None-clause-drawing
returns-in-None-clause-drawing g c = λ start w.
    drawing_still start c.steps.play c.step.new.self (c.steps.page.marks ++ rows c.steps.sketch.rows) c.steps.sketch.states c.in_ok-label.field-0 c.in-None.is (c.in_ok-label.ensures.played start) c.in_ok-label.ensures.settings
    (c.steps.invariant.drawing start w)

pub returns-in-None-clause-quiet : goal.returns-in-None-clause-quiet
returns-in-None-clause-quiet g c = (stepped_still c.steps.play c.step.new.self c.in_ok-label.field-0 c.in-None.is c.in_ok-label.ensures.moves).0

pub returns-in-None-clause-reading : goal.returns-in-None-clause-reading
returns-in-None-clause-reading g c =
    (stepped_still c.steps.play c.step.new.self c.in_ok-label.field-0 c.in-None.is c.in_ok-label.ensures.moves).1 ∙ c.steps.invariant.reading
