use Rattle.script_play.proofs.Plays.{few_by, room_by, came_event, came_over, came_bad}
use Rattle.script_play.proofs.play.Play.event.Goals as goal

pub apply-requires-clause-ids : goal.apply-requires-clause-ids
apply-requires-clause-ids g c = few_by c.self.inside.reader c.next_event.new.self c.in_ok-event.field-0 c.in-Event.event c.in-Event.is c.in_ok-event.ensures.answers

pub apply-requires-clause-events : goal.apply-requires-clause-events
apply-requires-clause-events g c =
    room_by c.self.inside.front c.self.inside.reader c.next_event.new.self c.self.inside.bad c.in_ok-event.field-0 c.in-Event.event c.in-Event.is c.in_ok-event.ensures.answers c.self.invariant

pub returns-in_ok-label-in-Event-clause-played : goal.returns-in_ok-label-in-Event-clause-played
returns-in_ok-label-in-Event-clause-played g c =
    (came_event c.self.inside.front c.apply.new.self c.self.inside.reader c.next_event.new.self c.self.inside.bad c.args.self.now c.self.view_is c.in_ok-event.field-0 c.in-Event.event c.in-Event.is c.in_ok-event.ensures.answers
    c.in_ok-label-in-Event.label c.requires c.in_ok-label-in-Event.ensures.done c.in_ok-label-in-Event.ensures.settings).1

pub returns-in-Bad-clause-played : goal.returns-in-Bad-clause-played
returns-in-Bad-clause-played g c =
    came_bad c.self.inside.front c.self.inside.reader c.next_event.new.self c.self.inside.bad c.args.self.now c.self.view_is c.in_ok-event.field-0 c.in-Bad.line c.in-Bad.is c.in_ok-event.ensures.answers c.requires

pub returns-in-End-clause-played : goal.returns-in-End-clause-played
returns-in-End-clause-played g c =
    came_over c.self.inside.front c.self.inside.reader c.next_event.new.self c.self.inside.bad c.args.self.now c.self.view_is c.in_ok-event.field-0 c.in-End.is c.in_ok-event.ensures.answers c.requires
