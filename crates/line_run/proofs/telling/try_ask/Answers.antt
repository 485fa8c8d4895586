use Rattle.std.proofs.Common.{sym, subst}
use Rattle.pnp_machine.specs.Queries.{query_of}
use Rattle.line_run.specs.Lines.{ToldBy}
use Rattle.line_run.proofs.Tries.{told_none, told_one}
use Rattle.line_run.proofs.telling.try_ask.Goals as goal

pub returns-in_ok-step-in-Some-2-clause-tried : goal.returns-in_ok-step-in-Some-2-clause-tried
returns-in_ok-step-in-Some-2-clause-tried c = λ event.
    let q = query_of c.in-Some.query in
    told_one c.args.run.now q (sym c.in-Some.ensures.query) c.in-Some.ensures.named c.args.line.now c.in-Some-2.answer (subst (ToldBy c.args.run.now q c.args.line.now) c.in-Some-2.is c.in_ok-answer.ensures)
    c.in_ok-step-in-Some-2.field-0 c.step.new.self c.in_ok-step-in-Some-2.ensures.moves c.in_ok-step-in-Some-2.ensures.same event

pub returns-in-None-clause-tried : goal.returns-in-None-clause-tried
returns-in-None-clause-tried c = λ event.
    let q = query_of c.in-Some.query in
    told_none c.args.run.now q (sym c.in-Some.ensures.query) c.in-Some.ensures.named c.args.line.now (subst (ToldBy c.args.run.now q c.args.line.now) c.in-None.is c.in_ok-answer.ensures) event
