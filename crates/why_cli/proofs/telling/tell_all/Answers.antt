use Rattle.why_cli.proofs.Explaining.{writing_event, written_by}
use Rattle.why_cli.proofs.telling.tell_all.Goals as goal

pub events-preserved : goal.events-preserved
events-preserved g c = λ start w.
    writing_event start c.tell_steps.new.play c.event.new.self c.tell_steps.new.text.items c.tell_event.new.text.items c.in_ok-happened.field-0 c.in-Some.happened c.in-Some.is
    (c.in_ok-happened.ensures.played start) c.in_ok-tell_event-in-Some.ensures (c.in_ok-tell_steps.ensures.written start (c.events.invariant start w))

pub returns-in-None : goal.returns-in-None
returns-in-None g c = λ start w.
    written_by start c.tell_steps.new.play c.event.new.self c.tell_steps.new.text.items c.in_ok-happened.field-0 c.in-None.is
    (c.in_ok-happened.ensures.played start) (c.in_ok-tell_steps.ensures.written start (c.events.invariant start w))
