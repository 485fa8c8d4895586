use Rattle.std.proofs.Common.{◌≡◌, Err, subst}
use Rattle.notify_front.specs.Desks.{front_of}
use Rattle.pnp_labels.specs.Texts.{Text}
use Rattle.pnp_cli.specs.Turns.{FollowsFront}
use Rattle.pnp_cli.specs.declared.turn.WriteError.{WriteError}
use Rattle.pnp_cli.proofs.SoFar.{answered_all_front, answered_front, answered_written, so_far_all_front, so_far_front}
use Rattle.pnp_cli.proofs.settle.answer_event.Goals as goal

pub returns-in_err-write-in-Ok-clause-front : goal.returns-in_err-write-in-Ok-clause-front
returns-in_err-write-in-Ok-clause-front g c =
    answered_front c.args.front.now c.gather_lines.new.front c.args.event (g.K.Sink.taken c.args.sink.now) (g.K.Sink.taken c.gather_lines.new.sink) (g.K.Sink.taken c.write.new.sink) c.args.lines.now.waiting.items c.gather_lines.new.lines.waiting.items c.args.tally.now c.gather_lines.new.tally
    c.requires.none c.in-Ok.ensures.ok c.in_err-write-in-Ok.ensures.front

pub returns-in_ok-write-in-Ok-clause-ok : goal.returns-in_ok-write-in-Ok-clause-ok
returns-in_ok-write-in-Ok-clause-ok g c =
    answered_written c.args.front.now c.gather_lines.new.front c.args.event (g.K.Sink.taken c.args.sink.now) (g.K.Sink.taken c.gather_lines.new.sink) (g.K.Sink.taken c.write.new.sink) c.args.lines.now.waiting.items c.gather_lines.new.lines.waiting.items c.args.tally.now c.gather_lines.new.tally
    c.requires.none c.in-Ok.ensures.ok c.in_ok-write-in-Ok.ensures.took

pub returns-in_ok-write-in-Ok-clause-front : goal.returns-in_ok-write-in-Ok-clause-front
returns-in_ok-write-in-Ok-clause-front g c =
    answered_all_front c.args.front.now c.gather_lines.new.front c.args.event (g.K.Sink.taken c.args.sink.now) (g.K.Sink.taken c.gather_lines.new.sink) (g.K.Sink.taken c.write.new.sink) c.args.lines.now.waiting.items c.gather_lines.new.lines.waiting.items c.args.tally.now c.gather_lines.new.tally
    c.requires.none c.in-Ok.ensures.ok c.in_ok-write-in-Ok.ensures.took

pub returns-in_err-write-in-Err-WantOfMemory-clause-front : goal.returns-in_err-write-in-Err-WantOfMemory-clause-front
returns-in_err-write-in-Err-WantOfMemory-clause-front g c =
    let out = c.in-Err-WantOfMemory.is in
    let error = c.in-Err-WantOfMemory.field-0-is in
    let is : c.gather_lines.result ≡ Err WriteError.WantOfMemory = cc in
    so_far_front c.args.front.now (front_of c.gather_lines.new.front) c.args.event (g.K.Sink.taken c.args.sink.now) (g.K.Sink.taken c.gather_lines.new.sink) (g.K.Sink.taken c.write-in-Err-WantOfMemory.new.sink) c.args.lines.now.waiting.items c.gather_lines.new.lines.waiting.items
    c.requires.none (c.gather_lines.ensures.so_far is) c.in_err-write-in-Err-WantOfMemory.ensures.front

pub returns-in_ok-write-in-Err-WantOfMemory-clause-front : goal.returns-in_ok-write-in-Err-WantOfMemory-clause-front
returns-in_ok-write-in-Err-WantOfMemory-clause-front g c =
    let out = c.in-Err-WantOfMemory.is in
    let error = c.in-Err-WantOfMemory.field-0-is in
    let is : c.gather_lines.result ≡ Err WriteError.WantOfMemory = cc in
    so_far_all_front c.args.front.now (front_of c.gather_lines.new.front) c.args.event (g.K.Sink.taken c.args.sink.now) (g.K.Sink.taken c.gather_lines.new.sink) (g.K.Sink.taken c.write-in-Err-WantOfMemory.new.sink) c.args.lines.now.waiting.items c.gather_lines.new.lines.waiting.items
    c.requires.none (c.gather_lines.ensures.so_far is) c.in_ok-write-in-Err-WantOfMemory.ensures.took

pub returns-in-Err-WriteFault-clause-front : goal.returns-in-Err-WriteFault-clause-front
returns-in-Err-WriteFault-clause-front g c =
    subst (λ (x : Text). FollowsFront c.args.front.now c.args.event x (g.K.Sink.taken c.args.sink.now) (g.K.Sink.taken c.gather_lines.new.sink)) c.requires.none c.gather_lines.ensures.front
