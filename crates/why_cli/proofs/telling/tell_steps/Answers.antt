use Rattle.std.proofs.Common.{refl, ◌∙◌}
use Rattle.why_cli.proofs.Explaining.{writing_step, writing_still, stepped_still, fewer_steps, reading_same}
use Rattle.why_cli.proofs.telling.tell_steps.Goals as goal

pub steps-init : goal.steps-init
steps-init g c = record { writing = λ start w. w; reading = refl }

pub steps-smaller : goal.steps-smaller
steps-smaller g c = fewer_steps c.steps.play c.step.new.self c.in_ok-label.field-0 c.in-Some.label c.in-Some.is c.in_ok-label.ensures.moves

pub steps-preserved : goal.steps-preserved
steps-preserved g c =
    record {
      writing = λ start w.
          writing_step start c.steps.play c.step.new.self c.steps.text.items c.tell.new.text.items c.in_ok-label.field-0 c.in-Some.label c.in-Some.is
          (c.in_ok-label.ensures.played start) c.in_ok-tell-in-Some.ensures (c.steps.invariant.writing start w);
      reading = reading_same c.steps.play c.step.new.self c.in_ok-label.field-0 c.in-Some.label c.in-Some.is c.in_ok-label.ensures.moves ∙ c.steps.invariant.reading;
    }

pub returns-in-None-clause-written : goal.returns-in-None-clause-written
returns-in-None-clause-written g c = λ start w.
    writing_still start c.steps.play c.step.new.self c.steps.text.items c.in_ok-label.field-0 c.in-None.is (c.in_ok-label.ensures.played start) (c.steps.invariant.writing start w)

pub returns-in-None-clause-quiet : goal.returns-in-None-clause-quiet
returns-in-None-clause-quiet g c = (stepped_still c.steps.play c.step.new.self c.in_ok-label.field-0 c.in-None.is c.in_ok-label.ensures.moves).0

pub returns-in-None-clause-reading : goal.returns-in-None-clause-reading
returns-in-None-clause-reading g c =
    (stepped_still c.steps.play c.step.new.self c.in_ok-label.field-0 c.in-None.is c.in_ok-label.ensures.moves).1 ∙ c.steps.invariant.reading
