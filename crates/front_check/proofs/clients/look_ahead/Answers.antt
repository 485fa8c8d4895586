use Rattle.std.proofs.Common.{subst}
use Rattle.script_reader.specs.Answers.{Answers}
use Rattle.script_reader.specs.declared.next.Next.{Next}
use Rattle.front_check.proofs.Ahead.{bad_ahead, end_ahead, event_ahead, never_more}
use Rattle.front_check.proofs.clients.look_ahead.Goals as goal

pub returns-in-Ok-Event : goal.returns-in-Ok-Event
returns-in-Ok-Event c =
    event_ahead c.ahead_of.result c.args.reader.now c.next_event.new.self c.in-Ok-Event.event c.requires.finished
    (subst (λ (n : Next). Answers n c.args.reader.now c.next_event.new.self) c.in-Ok-Event.field-0-is c.in-Ok-Event.ensures.answers) c.ahead_of.ensures

pub returns-in-Ok-Bad : goal.returns-in-Ok-Bad
returns-in-Ok-Bad c =
    bad_ahead c.args.reader.now c.next_event.new.self _ c.requires.finished
    (subst (λ (n : Next). Answers n c.args.reader.now c.next_event.new.self) c.in-Ok-Bad.field-0-is c.in-Ok-Bad.ensures.answers)

pub returns-in-Ok-End : goal.returns-in-Ok-End
returns-in-Ok-End c =
    end_ahead c.args.reader.now c.next_event.new.self c.requires.finished
    (subst (λ (n : Next). Answers n c.args.reader.now c.next_event.new.self) c.in-Ok-End.field-0-is c.in-Ok-End.ensures.answers)

pub unreachable-requires : goal.unreachable-requires
unreachable-requires c =
    never_more c.args.reader.now c.next_event.new.self c.requires.finished
    (subst (λ (n : Next). Answers n c.args.reader.now c.next_event.new.self) c.in-Ok-NeedMore.field-0-is c.in-Ok-NeedMore.ensures.answers)
