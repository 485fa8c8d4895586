use Rattle.std.proofs.Common.{true, subst}
use Rattle.script_reader.specs.Answers.{Answers}
use Rattle.script_reader.specs.Script.{trace}
use Rattle.script_reader.specs.declared.next.Next.{Next}
use Rattle.notify_front.specs.Desks.{front_of, told_of}
use Rattle.trace_check.proofs.FewIds.{few_ids}
use Rattle.front_check.proofs.Verdicts.{tells_end}
use Rattle.front_check.proofs.Turning.{event_read, event_turns, end_turn, bad_turn}
use Rattle.front_check.proofs.turn.take_rest.Goals as goal

pub take_event-requires-clause-ids : goal.take_event-requires-clause-ids
take_event-requires-clause-ids c =
    let answers : Answers (Next.Event c.in-Ok-Event.event) c.args.reader.now c.next_event.new.self = subst (λ (n : Next). Answers n c.args.reader.now c.next_event.new.self) c.in-Ok-Event.field-0-is c.in-Ok-Event.ensures.answers in
    few_ids true c.args.reader.now.passed c.args.reader.now.rest c.next_event.new.self.line c.in-Ok-Event.event (trace true c.next_event.new.self.passed c.next_event.new.self.rest)
    (event_read c.args.reader.now c.next_event.new.self c.in-Ok-Event.event c.requires.finished answers)

pub returns-in-Ok-Event : goal.returns-in-Ok-Event
returns-in-Ok-Event c =
    let answers : Answers (Next.Event c.in-Ok-Event.event) c.args.reader.now c.next_event.new.self = subst (λ (n : Next). Answers n c.args.reader.now c.next_event.new.self) c.in-Ok-Event.field-0-is c.in-Ok-Event.ensures.answers in
    event_turns c.take_event.result c.args.run c.args.reader.now c.next_event.new.self c.in-Ok-Event.event c.args.rest.now c.args.lines c.requires.finished answers c.take_event.ensures.finds c.take_event.ensures.on

pub returns-in_ok-checked-in-Ok-Bad : goal.returns-in_ok-checked-in-Ok-Bad
returns-in_ok-checked-in-Ok-Bad c =
    let answers : Answers (Next.Bad c.in-Ok-Bad.line) c.args.reader.now c.next_event.new.self = subst (λ (n : Next). Answers n c.args.reader.now c.next_event.new.self) c.in-Ok-Bad.field-0-is c.in-Ok-Bad.ensures.answers in
    bad_turn c.in_ok-checked-in-Ok-Bad.field-0 c.args.run c.args.reader.now c.next_event.new.self c.in-Ok-Bad.line c.args.rest.now c.args.lines c.requires.finished answers c.in_ok-checked-in-Ok-Bad.ensures

pub returns-in_ok-checked-in-Ok-End : goal.returns-in_ok-checked-in-Ok-End
returns-in_ok-checked-in-Ok-End c =
    let answers : Answers Next.End c.args.reader.now c.next_event.new.self = subst (λ (n : Next). Answers n c.args.reader.now c.next_event.new.self) c.in-Ok-End.field-0-is c.in-Ok-End.ensures.answers in
    end_turn c.in_ok-checked-in-Ok-End.field-0 c.args.run c.args.reader.now c.next_event.new.self c.args.rest.now c.args.lines c.requires.finished answers
    (tells_end (told_of c.args.run) c.in_ok-checked-in-Ok-End.field-0 (front_of c.args.run) c.args.rest.now c.args.lines c.requires.quiet (c.in_ok-checked-in-Ok-End.ensures.tells (told_of c.args.run)))
