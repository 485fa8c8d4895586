use Rattle.std.proofs.Common.{◌∙◌}
use Rattle.explore_cli.proofs.Seeing.{saw_event, saw_end}
use Rattle.explore_cli.proofs.player.see_all.Goals as goal

pub events-preserved : goal.events-preserved
events-preserved g c = record {
  settings = c.in_ok-happened.ensures.settings ∙ c.in_ok-see_steps.ensures.settings ∙ c.events.invariant.settings;
  saw = λ start h.
      saw_event start c.see_steps.new.play c.event.new.self c.args.expected.now c.see_steps.new.seen c.see_event.new.seen c.in_ok-happened.field-0 c.in-Some.happened c.in-Some.is
      (c.in_ok-happened.ensures.played start) c.in_ok-see_event-in-Some.ensures (c.in_ok-see_steps.ensures.saw start (c.events.invariant.saw start h));
  seen = (_, c.in_ok-see_event-in-Some.ensures c.in_ok-see_steps.ensures.seen.0 c.in_ok-see_steps.ensures.seen.1);
}

pub returns-in-None-clause-settings : goal.returns-in-None-clause-settings
returns-in-None-clause-settings g c = c.in_ok-happened.ensures.settings ∙ c.in_ok-see_steps.ensures.settings ∙ c.events.invariant.settings

pub returns-in-None-clause-saw : goal.returns-in-None-clause-saw
returns-in-None-clause-saw g c = λ start h.
    saw_end start c.see_steps.new.play c.event.new.self c.args.expected.now c.see_steps.new.seen c.in_ok-happened.field-0 c.in-None.is
    (c.in_ok-happened.ensures.played start) (c.in_ok-see_steps.ensures.saw start (c.events.invariant.saw start h))
