use Rattle.std.proofs.Common.{◌≡◌, ◌+◌, ◌-◌, Bool, true, false, length, take, drop, sym, ◌∙◌, subst}
use Rattle.std.proofs.lemmas.List.{take_rest}
use Rattle.std.proofs.lemmas.Result.{IfOk-weaker}
use Rattle.pnp_labels.specs.Texts.{Text}
use Rattle.script_reader.specs.Script.{stops}
use Rattle.free_model.specs.Checks.{bad_line}
use Rattle.notify_front.specs.Desks.{front_of, told_of}
use Rattle.trace_check.specs.Turns.{IfFront}
use Rattle.front_check.specs.FrontChecks.{Runs}
use Rattle.front_check.specs.Turns.{Tells, TellsEnd}
use Rattle.front_check.proofs.Fronts.{behind}
use Rattle.front_check.proofs.Verdicts.{tells_other, tells_bad}
use Rattle.front_check.proofs.turn.take_bad.Goals as goal

pub returns-then-not-begins_with : goal.returns-then-not-begins_with
returns-then-not-begins_with c =
    let front : IfFront false c.args.rest.now c.deref.result.now = subst (λ (b : Bool). IfFront b c.args.rest.now c.deref.result.now) c.if-not-begins_with.true c.begins_with.ensures in
    tells_other (told_of c.args.run.now) (front_of c.args.run.now) c.args.number c.args.rest.now c.args.lines c.requires.quiet
    (subst (IfFront false c.args.rest.now) (c.deref.ensures.value ∙ c.in_ok-line.ensures) front)

pub returns : goal.returns
returns c =
    let front : IfFront true c.args.rest.now c.deref.result.now = subst (λ (b : Bool). IfFront b c.args.rest.now c.deref.result.now) c.if-not-begins_with.false c.begins_with.ensures in
    let size : c.len.result ≡ length c.deref.result.now = c.len.ensures ∙ sym c.deref.ensures.len in
    IfOk-weaker c.take_end.result
    (λ checked. TellsEnd checked (front_of c.args.run.now) (take (length c.args.rest.now - c.len.result) (drop c.len.result c.args.rest.now)) (c.args.lines + 1))
    (λ checked. Tells checked (told_of c.args.run.now) (Runs (front_of c.args.run.now) (stops c.args.number)) c.args.rest.now c.args.lines)
    (λ checked h. subst (λ (t : Text). Tells checked (told_of c.args.run.now) (Runs (front_of c.args.run.now) (stops c.args.number)) t c.args.lines)
    (sym (behind c.args.rest.now c.deref.result.now (bad_line c.args.number) c.len.result front (c.deref.ensures.value ∙ c.in_ok-line.ensures) size))
    (tells_bad (told_of c.args.run.now) checked (front_of c.args.run.now) c.args.number (drop c.len.result c.args.rest.now) c.args.lines c.requires.quiet ((subst (λ (t : Text). TellsEnd checked (front_of c.args.run.now) t (c.args.lines + 1)) (take_rest c.args.rest.now c.len.result) h).tells (told_of c.args.run.now))))
    c.take_end.ensures
