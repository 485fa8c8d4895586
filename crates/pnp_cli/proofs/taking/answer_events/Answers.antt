use Rattle.std.proofs.Common.{[], arith, subst}
use Rattle.script_reader.specs.Script.{trace}
use Rattle.script_reader.specs.Answers.{Answers}
use Rattle.script_reader.specs.declared.next.Next.{Next}
use Rattle.pnp_cli.specs.declared.turn.Ending.{Ending}
use Rattle.pnp_cli.proofs.FewIds.{few_ids}
use Rattle.pnp_cli.proofs.Going.{event_here, taking_none, taking_more, taken_by, taking_front, taking_front_more}
use Rattle.pnp_cli.proofs.taking.answer_events.Goals as goal

pub events-init : goal.events-init
events-init g c =
    record {
      taking = taking_none c.args.front.now c.args.reader.now (g.K.Sink.taken c.args.sink.now) [] c.args.tally.now c.requires.awaits;
      none = c.requires.none;
      counts = omega arith;
    }

pub returns-in_err-event-clause-front : goal.returns-in_err-event-clause-front
returns-in_err-event-clause-front g c =
    taking_front c.args.front.now c.events.front c.args.reader.now c.events.reader (g.K.Sink.taken c.args.sink.now) (g.K.Sink.taken c.events.sink) [] [] c.args.tally.now c.events.tally c.events.invariant.taking

pub answer_event-requires-clause-few : goal.answer_event-requires-clause-few
answer_event-requires-clause-few g c =
    let A : Next → Type 0 = λ n. Answers n c.events.reader c.next_event.new.self in
    let answers : Answers (Next.Event c.in-Event.event) c.events.reader c.next_event.new.self = subst A c.in-Event.is c.in_ok-event.ensures.answers in
    few_ids c.events.reader.finished c.events.reader.passed c.events.reader.rest c.next_event.new.self.line c.in-Event.event (trace c.events.reader.finished c.next_event.new.self.passed c.next_event.new.self.rest)
    (event_here c.events.reader c.next_event.new.self c.next_event.new.self.line c.in-Event.event answers.0)

pub events-preserved : goal.events-preserved
events-preserved g c =
    let A : Next → Type 0 = λ n. Answers n c.events.reader c.next_event.new.self in
    let answers : Answers (Next.Event c.in-Event.event) c.events.reader c.next_event.new.self = subst A c.in-Event.is c.in_ok-event.ensures.answers in
    record {
      taking =
          taking_more c.args.front.now c.events.front c.answer_event.new.front c.args.reader.now c.events.reader c.next_event.new.self
          (g.K.Sink.taken c.args.sink.now) (g.K.Sink.taken c.events.sink) (g.K.Sink.taken c.answer_event.new.sink) [] [] [] c.args.tally.now c.events.tally c.answer_event.new.tally
          c.next_event.new.self.line c.in-Event.event c.events.invariant.taking answers.0 answers.1 c.in_ok-answer_event-in-Event.ensures.ok;
      none = c.in_ok-answer_event-in-Event.ensures.none;
      counts = omega (arith, c.events.invariant.counts, c.in_ok-answer_event-in-Event.ensures.counts);
    }

pub returns-in_err-answer_event-in-Event-clause-front : goal.returns-in_err-answer_event-in-Event-clause-front
returns-in_err-answer_event-in-Event-clause-front g c =
    let A : Next → Type 0 = λ n. Answers n c.events.reader c.next_event.new.self in
    let answers : Answers (Next.Event c.in-Event.event) c.events.reader c.next_event.new.self = subst A c.in-Event.is c.in_ok-event.ensures.answers in
    taking_front_more c.args.front.now c.events.front c.args.reader.now c.events.reader c.next_event.new.self
    (g.K.Sink.taken c.args.sink.now) (g.K.Sink.taken c.events.sink) (g.K.Sink.taken c.answer_event.new.sink) [] [] c.args.tally.now c.events.tally
    c.next_event.new.self.line c.in-Event.event c.events.invariant.taking answers.0 c.in_err-answer_event-in-Event.ensures.front

pub returns-in-NeedMore-clause-ok : goal.returns-in-NeedMore-clause-ok
returns-in-NeedMore-clause-ok g c =
    let A : Next → Type 0 = λ n. Answers n c.events.reader c.next_event.new.self in
    let answers : Answers Next.NeedMore c.events.reader c.next_event.new.self = subst A c.in-NeedMore.is c.in_ok-event.ensures.answers in
    taken_by c.args.front.now c.events.front c.args.reader.now c.events.reader c.next_event.new.self (g.K.Sink.taken c.args.sink.now) (g.K.Sink.taken c.events.sink) [] [] c.args.tally.now c.events.tally
    Ending.NeedsMore c.events.invariant.taking answers.0 answers.2

pub returns-in-NeedMore-clause-front : goal.returns-in-NeedMore-clause-front
returns-in-NeedMore-clause-front g c =
    taking_front c.args.front.now c.events.front c.args.reader.now c.events.reader (g.K.Sink.taken c.args.sink.now) (g.K.Sink.taken c.events.sink) [] [] c.args.tally.now c.events.tally c.events.invariant.taking

pub returns-in-End-clause-ok : goal.returns-in-End-clause-ok
returns-in-End-clause-ok g c =
    let A : Next → Type 0 = λ n. Answers n c.events.reader c.next_event.new.self in
    let answers : Answers Next.End c.events.reader c.next_event.new.self = subst A c.in-End.is c.in_ok-event.ensures.answers in
    taken_by c.args.front.now c.events.front c.args.reader.now c.events.reader c.next_event.new.self (g.K.Sink.taken c.args.sink.now) (g.K.Sink.taken c.events.sink) [] [] c.args.tally.now c.events.tally
    Ending.Over c.events.invariant.taking answers.0 answers.2

pub returns-in-End-clause-front : goal.returns-in-End-clause-front
returns-in-End-clause-front g c =
    taking_front c.args.front.now c.events.front c.args.reader.now c.events.reader (g.K.Sink.taken c.args.sink.now) (g.K.Sink.taken c.events.sink) [] [] c.args.tally.now c.events.tally c.events.invariant.taking

pub returns-in-Bad-clause-ok : goal.returns-in-Bad-clause-ok
returns-in-Bad-clause-ok g c =
    let A : Next → Type 0 = λ n. Answers n c.events.reader c.next_event.new.self in
    let answers : Answers (Next.Bad c.in-Bad.line) c.events.reader c.next_event.new.self = subst A c.in-Bad.is c.in_ok-event.ensures.answers in
    taken_by c.args.front.now c.events.front c.args.reader.now c.events.reader c.next_event.new.self (g.K.Sink.taken c.args.sink.now) (g.K.Sink.taken c.events.sink) [] [] c.args.tally.now c.events.tally
    (Ending.Bad c.in-Bad.line) c.events.invariant.taking answers.0 (answers.4, answers.3)

pub returns-in-Bad-clause-front : goal.returns-in-Bad-clause-front
returns-in-Bad-clause-front g c =
    taking_front c.args.front.now c.events.front c.args.reader.now c.events.reader (g.K.Sink.taken c.args.sink.now) (g.K.Sink.taken c.events.sink) [] [] c.args.tally.now c.events.tally c.events.invariant.taking
