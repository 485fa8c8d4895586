use Rattle.std.proofs.Common.{arith, refl}
use Rattle.pnp_machine.specs.declared.manager.Moved.TheVariants.{Quiet}
use Rattle.pnp_cli.proofs.Settling.{Made, stepping_none, stepping_quiet, told_front, told_less, told_more, told_quiet}
use Rattle.pnp_cli.proofs.SoFar.{back_error, settled_so_far}
use Rattle.pnp_cli.specs.declared.turn.WriteError.{WriteError}
use Rattle.pnp_cli.proofs.settle.settle.Goals as goal

pub returns-then-is_quiet-clause-ok : goal.returns-then-is_quiet-clause-ok
returns-then-is_quiet-clause-ok g c =
    let taken = g.K.Sink.taken c.args.sink.now in
    let none = stepping_none c.args.front.now taken c.args.lines.now.waiting.items c.args.tally.now c.requires.run in
    stepping_quiet c.args.front.now c.args.front.now c.args.front.now taken taken c.args.lines.now.waiting.items c.args.lines.now.waiting.items c.args.tally.now c.args.tally.now none
    Quiet refl (c.if-is_quiet.ensures, refl) refl refl c.requires.run

pub returns-in_err-tell_moved-clause-front : goal.returns-in_err-tell_moved-clause-front
returns-in_err-tell_moved-clause-front g c =
    let made : Made c.steps.front c.step.result c.step.new.self = record { moves = c.step.ensures.moves; same = c.step.ensures.settings; events = c.step.ensures.events; run = c.step.ensures.run } in
    told_front c.args.front.now c.steps.front c.step.new.self c.step.result (g.K.Sink.taken c.args.sink.now) (g.K.Sink.taken c.steps.sink) (g.K.Sink.taken c.tell_moved.new.sink)
    c.args.lines.now.waiting.items c.steps.lines.waiting.items c.args.tally.now c.steps.tally c.steps.invariant.stepping made c.in_err-tell_moved.ensures.front

pub steps-smaller : goal.steps-smaller
steps-smaller g c =
    let made : Made c.steps.front c.step.result c.step.new.self = record { moves = c.step.ensures.moves; same = c.step.ensures.settings; events = c.step.ensures.events; run = c.step.ensures.run } in
    told_less c.steps.front c.step.new.self c.step.result (g.K.Sink.taken c.steps.sink) (g.K.Sink.taken c.tell_moved.new.sink) c.steps.lines.waiting.items c.tell_moved.new.lines.waiting.items c.steps.tally c.tell_moved.new.tally
    c.in_ok-tell_moved.field-0 c.if-branch.true c.steps.invariant.stepping.run made c.in_ok-tell_moved.ensures.held

pub steps-preserved : goal.steps-preserved
steps-preserved g c =
    let made : Made c.steps.front c.step.result c.step.new.self = record { moves = c.step.ensures.moves; same = c.step.ensures.settings; events = c.step.ensures.events; run = c.step.ensures.run } in
    record {
      stepping =
          told_more c.args.front.now c.steps.front c.step.new.self c.step.result (g.K.Sink.taken c.args.sink.now) (g.K.Sink.taken c.steps.sink) (g.K.Sink.taken c.tell_moved.new.sink)
          c.args.lines.now.waiting.items c.steps.lines.waiting.items c.tell_moved.new.lines.waiting.items c.args.tally.now c.steps.tally c.tell_moved.new.tally
          c.in_ok-tell_moved.field-0 c.if-branch.true c.steps.invariant.stepping made c.in_ok-tell_moved.ensures.held;
      counts = omega (arith, c.steps.invariant.counts, c.in_ok-tell_moved.ensures.counts);
    }

pub returns-clause-ok : goal.returns-clause-ok
returns-clause-ok g c =
    let made : Made c.steps.front c.step.result c.step.new.self = record { moves = c.step.ensures.moves; same = c.step.ensures.settings; events = c.step.ensures.events; run = c.step.ensures.run } in
    told_quiet c.args.front.now c.steps.front c.step.new.self c.step.result (g.K.Sink.taken c.args.sink.now) (g.K.Sink.taken c.steps.sink) (g.K.Sink.taken c.tell_moved.new.sink)
    c.args.lines.now.waiting.items c.steps.lines.waiting.items c.tell_moved.new.lines.waiting.items c.args.tally.now c.steps.tally c.tell_moved.new.tally
    c.in_ok-tell_moved.field-0 c.if-branch.false c.steps.invariant.stepping made c.in_ok-tell_moved.ensures.held

pub returns-clause-front : goal.returns-clause-front
returns-clause-front g c =
    let made : Made c.steps.front c.step.result c.step.new.self = record { moves = c.step.ensures.moves; same = c.step.ensures.settings; events = c.step.ensures.events; run = c.step.ensures.run } in
    told_front c.args.front.now c.steps.front c.step.new.self c.step.result (g.K.Sink.taken c.args.sink.now) (g.K.Sink.taken c.steps.sink) (g.K.Sink.taken c.tell_moved.new.sink)
    c.args.lines.now.waiting.items c.steps.lines.waiting.items c.args.tally.now c.steps.tally c.steps.invariant.stepping made c.in_ok-tell_moved.ensures.front

pub steps-init : goal.steps-init
steps-init g c =
    record {
      stepping = stepping_none c.args.front.now (g.K.Sink.taken c.args.sink.now) c.args.lines.now.waiting.items c.args.tally.now c.requires.run;
      counts = omega arith;
    }

pub returns-in_err-tell_moved-clause-so_far : goal.returns-in_err-tell_moved-clause-so_far
returns-in_err-tell_moved-clause-so_far g c = λ want.
    let made : Made c.steps.front c.step.result c.step.new.self = record { moves = c.step.ensures.moves; same = c.step.ensures.settings; events = c.step.ensures.events; run = c.step.ensures.run } in
    settled_so_far c.args.front.now c.steps.front c.step.new.self c.step.result (g.K.Sink.taken c.args.sink.now) (g.K.Sink.taken c.steps.sink) (g.K.Sink.taken c.tell_moved.new.sink)
    c.args.lines.now.waiting.items c.steps.lines.waiting.items c.tell_moved.new.lines.waiting.items c.args.tally.now c.steps.tally c.steps.invariant.stepping made c.step.ensures.err (c.in_err-tell_moved.ensures.kept (back_error c.from_residual.result c.in_err-tell_moved.field-0.0 WriteError.WantOfMemory c.from_residual.ensures want))
