use Rattle.std.proofs.Common.{◌≡◌, Bool, true, false, length, ◌∙◌, subst}
use Rattle.notify_front.specs.Desks.{front_of, told_of}
use Rattle.trace_check.specs.Turns.{IfFront}
use Rattle.front_check.proofs.Turning.{event_goes_on, event_taken, event_refused}
use Rattle.front_check.proofs.turn.take_event.Goals as goal

pub returns-then-begins_with-clause-finds : goal.returns-then-begins_with-clause-finds
returns-then-begins_with-clause-finds c =
    let front : IfFront true c.args.rest.now c.deref.result.now = subst (λ (b : Bool). IfFront b c.args.rest.now c.deref.result.now) c.if-begins_with.true c.begins_with.ensures in
    let size : c.len.result ≡ length c.in-Ok.line.items = c.len.ensures ∙ c.in-Ok.line.ok.0 in
    event_taken (told_of c.args.run) c.args.run c.event_line.new.run c.args.event c.in-Ok.line.items c.args.rest.now c.len.result c.requires.quiet c.in-Ok.ensures
    (subst (IfFront true c.args.rest.now) c.deref.ensures.value front) size

pub returns-clause-finds : goal.returns-clause-finds
returns-clause-finds c =
    let front : IfFront false c.args.rest.now c.deref.result.now = subst (λ (b : Bool). IfFront b c.args.rest.now c.deref.result.now) c.if-begins_with.false c.begins_with.ensures in
    event_refused (told_of c.args.run) c.args.run c.event_line.new.run c.args.event c.in-Ok.line.items c.args.rest.now c.args.lines c.requires.quiet c.in-Ok.ensures
    (subst (IfFront false c.args.rest.now) c.deref.ensures.value front)

pub returns-then-begins_with-clause-on : goal.returns-then-begins_with-clause-on
returns-then-begins_with-clause-on c = event_goes_on c.args.run c.event_line.new.run c.args.event c.in-Ok.line.items c.len.result c.in-Ok.ensures
