use Rattle.std.proofs.Common.{◌≡◌, None, Some, arith}
use Rattle.drive_cli.specs.Runs.{Answered}
use Rattle.drive_cli.proofs.Outcomes.{badly_of, began_of, failed_of, first_told, on_ok}
use Rattle.drive_cli.proofs.program.answer_named.Goals as goal

pub returns-then-is_err-clause-answered : goal.returns-then-is_err-clause-answered
returns-then-is_err-clause-answered g c = Answered.unopened c.open.ensures.past c.open.ensures.taken

pub returns-in-Ok-None-clause-answered : goal.returns-in-Ok-None-clause-answered
returns-in-Ok-None-clause-answered g c =
    let first = first_told _ _ _ _ _ _ c.open.ensures.past c.open.ensures.taken (on_ok c.open.result c.is_err.result c.open.ensures.answers c.is_err.ensures.value c.if-is_err.false) in
    let none : c.in-Ok-None.field-0 ≡ None = grind (arith, c.in-Ok-None.is, c.in-Ok-None.field-0-is) in
    began_of _ _ _ _ _ _ _ _ _ _ _ _ first c.in-Ok-None.ensures.greets none c.run_named.ensures.outcome

pub returns-in-Ok-Some-clause-answered : goal.returns-in-Ok-Some-clause-answered
returns-in-Ok-Some-clause-answered g c =
    let first = first_told _ _ _ _ _ _ c.open.ensures.past c.open.ensures.taken (on_ok c.open.result c.is_err.result c.open.ensures.answers c.is_err.ensures.value c.if-is_err.false) in
    let some : c.in-Ok-Some.field-0 ≡ Some c.in-Ok-Some.ended = grind (arith, c.in-Ok-Some.is, c.in-Ok-Some.field-0-is, c.in-Ok-Some.ended-is) in
    badly_of _ _ _ _ _ _ _ _ _ _ _ _ _ first c.in-Ok-Some.ensures.greets some c.ended_status.ensures

pub returns-in-Err-clause-answered : goal.returns-in-Err-clause-answered
returns-in-Err-clause-answered g c =
    let first = first_told _ _ _ _ _ _ c.open.ensures.past c.open.ensures.taken (on_ok c.open.result c.is_err.result c.open.ensures.answers c.is_err.ensures.value c.if-is_err.false) in
    failed_of _ _ _ _ _ _ _ _ _ _ _ first c.in-Err.ensures.front c.error_status.ensures
