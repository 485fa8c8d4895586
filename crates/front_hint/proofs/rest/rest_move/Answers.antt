use Rattle.std.proofs.Common.{subst}
use Rattle.script_reader.specs.Answers.{Answers}
use Rattle.script_reader.specs.declared.next.Next.{Next}
use Rattle.notify_front.specs.Desks.{front_of, told_of}
use Rattle.front_hint.proofs.Spotting.{event_moves, few_here, never_more, bad_reads, over_reads}
use Rattle.front_hint.proofs.rest.rest_move.Goals as goal

pub event_move-requires-clause-ids : goal.event_move-requires-clause-ids
event_move-requires-clause-ids c =
    few_here c.args.reader c.next_event.new.self c.in-Ok-Event.event c.requires.finished
    (subst (λ (n : Next). Answers n c.args.reader c.next_event.new.self) c.in-Ok-Event.field-0-is c.in-Ok-Event.ensures.answers)

pub unreachable-requires : goal.unreachable-requires
unreachable-requires c =
    never_more c.args.reader c.next_event.new.self c.requires.finished
    (subst (λ (n : Next). Answers n c.args.reader c.next_event.new.self) c.in-Ok-NeedMore.field-0-is c.in-Ok-NeedMore.ensures.answers)

pub returns-in-Ok-Event : goal.returns-in-Ok-Event
returns-in-Ok-Event c =
    let answers : Answers (Next.Event c.in-Ok-Event.event) c.args.reader c.next_event.new.self = subst (λ (n : Next). Answers n c.args.reader c.next_event.new.self) c.in-Ok-Event.field-0-is c.in-Ok-Event.ensures.answers in
    event_moves c.event_move.result c.args.answer c.args.run c.args.reader c.next_event.new.self c.in-Ok-Event.event c.requires.quiet c.requires.finished c.requires.events answers c.event_move.ensures

pub returns-in-Ok-Bad : goal.returns-in-Ok-Bad
returns-in-Ok-Bad c =
    let answers : Answers (Next.Bad c.in-Ok-Bad.line) c.args.reader c.next_event.new.self = subst (λ (n : Next). Answers n c.args.reader c.next_event.new.self) c.in-Ok-Bad.field-0-is c.in-Ok-Bad.ensures.answers in
    bad_reads c.bad_move-next.result c.args.answer (told_of c.args.run) (front_of c.args.run) c.args.reader c.next_event.new.self c.in-Ok-Bad.line c.requires.finished answers c.bad_move-next.ensures

pub returns-in-Ok-End : goal.returns-in-Ok-End
returns-in-Ok-End c =
    let answers : Answers Next.End c.args.reader c.next_event.new.self = subst (λ (n : Next). Answers n c.args.reader c.next_event.new.self) c.in-Ok-End.field-0-is c.in-Ok-End.ensures.answers in
    over_reads c.over_move-next.result c.args.answer (told_of c.args.run) (front_of c.args.run) c.args.reader c.next_event.new.self c.requires.finished answers c.over_move-next.ensures
