use Rattle.std.proofs.lemmas.Result.{on_ok_weaker}
use Rattle.pnp_cli.proofs.Settling.{answer_front, answer_front_more, answer_told}
use Rattle.pnp_cli.proofs.SoFar.{answer_so_far, answer_so_far_more, back_error}
use Rattle.pnp_cli.specs.declared.turn.WriteError.{WriteError}
use Rattle.pnp_cli.proofs.settle.gather_lines.Goals as goal

pub returns-in_err-tell_answer-clause-front : goal.returns-in_err-tell_answer-clause-front
returns-in_err-tell_answer-clause-front g c =
    answer_front c.args.front.now c.apply.new.self c.args.event c.apply.result (g.K.Sink.taken c.args.sink.now) (g.K.Sink.taken c.tell_answer.new.sink) c.args.lines.now.waiting.items
    c.apply.ensures.done c.in_err-tell_answer.ensures.front

pub returns-clause-ok : goal.returns-clause-ok
returns-clause-ok g c =
    on_ok_weaker c.settle.result
    (answer_told c.args.front.now c.apply.new.self c.settle.new.front c.args.event c.apply.result (g.K.Sink.taken c.args.sink.now) (g.K.Sink.taken c.tell_answer.new.sink) (g.K.Sink.taken c.settle.new.sink) c.args.lines.now.waiting.items c.tell_answer.new.lines.waiting.items c.settle.new.lines.waiting.items c.args.tally.now c.tell_answer.new.tally c.settle.new.tally
    c.apply.ensures.done c.apply.ensures.settings c.apply.ensures.count c.in_ok-tell_answer.ensures.held) c.settle.ensures.ok

pub returns-clause-front : goal.returns-clause-front
returns-clause-front g c =
    answer_front_more c.args.front.now c.apply.new.self c.args.event c.apply.result (g.K.Sink.taken c.args.sink.now) (g.K.Sink.taken c.tell_answer.new.sink) (g.K.Sink.taken c.settle.new.sink) c.args.lines.now.waiting.items c.tell_answer.new.lines.waiting.items c.args.tally.now c.tell_answer.new.tally
    c.apply.ensures.done c.apply.ensures.settings c.in_ok-tell_answer.ensures.held c.settle.ensures.front

pub returns-in_err-tell_answer-clause-so_far : goal.returns-in_err-tell_answer-clause-so_far
returns-in_err-tell_answer-clause-so_far g c = λ want.
    answer_so_far c.args.front.now c.apply.new.self c.args.event c.apply.result (g.K.Sink.taken c.args.sink.now) (g.K.Sink.taken c.tell_answer.new.sink) c.args.lines.now.waiting.items c.tell_answer.new.lines.waiting.items
    c.apply.ensures.done c.apply.ensures.err (c.in_err-tell_answer.ensures.kept (back_error c.from_residual.result c.in_err-tell_answer.field-0.0 WriteError.WantOfMemory c.from_residual.ensures want))

pub returns-clause-so_far : goal.returns-clause-so_far
returns-clause-so_far g c = λ want.
    answer_so_far_more c.args.front.now c.apply.new.self c.settle.new.front c.args.event c.apply.result (g.K.Sink.taken c.args.sink.now) (g.K.Sink.taken c.tell_answer.new.sink) (g.K.Sink.taken c.settle.new.sink)
    c.args.lines.now.waiting.items c.tell_answer.new.lines.waiting.items c.settle.new.lines.waiting.items c.args.tally.now c.tell_answer.new.tally
    c.apply.ensures.done c.apply.ensures.settings c.in_ok-tell_answer.ensures.held (c.settle.ensures.so_far want)
