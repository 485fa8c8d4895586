use Rattle.std.proofs.Common.{◌≡◌, ◌+◌, ◌≤◌, ◌^◌, length, sym, subst, arith}
use Rattle.pnp_model.specs.Records.{Settings}
use Rattle.notify_front.specs.Desks.{front_of, told_of}
use Rattle.notify_front.specs.Fronts.{Front, IsFrontQuiet}
use Rattle.front_check.specs.Turns.{FindsStep}
use Rattle.front_check.specs.declared.step.Found.{Found}
use Rattle.front_check.proofs.Turning.{line_turn, turns_same}
use Rattle.front_check.proofs.turn.take_line.Goals as goal

pub returns-in-Ok-Line : goal.returns-in-Ok-Line
returns-in-Ok-Line c =
    let d = c.args.run in
    let e = c.take_step.new.run in
    line_turn d e c.args.reader.now c.args.rest.now c.args.lines c.in-Ok-Line.count c.take_step.ensures.told c.take_step.ensures.events
    (subst (λ (f : Found). FindsStep f (told_of d) (front_of d) (front_of e) c.args.rest.now c.args.lines) c.in-Ok-Line.field-0-is c.in-Ok-Line.ensures.finds)

pub take_rest-requires-clause-quiet : goal.take_rest-requires-clause-quiet
take_rest-requires-clause-quiet c =
    let d = c.args.run in
    let e = c.take_step.new.run in
    let (quiet, same) : FindsStep Found.Quiet (told_of d) (front_of d) (front_of e) c.args.rest.now c.args.lines =
    subst (λ (f : Found). FindsStep f (told_of d) (front_of d) (front_of e) c.args.rest.now c.args.lines) c.in-Ok-Quiet.field-0-is c.in-Ok-Quiet.ensures.finds
    in
    subst (λ (t : Settings). IsFrontQuiet t (front_of e)) (sym c.take_step.ensures.told) (subst (λ (f : Front). IsFrontQuiet (told_of d) f) (sym same) quiet)

pub take_rest-requires-clause-events : goal.take_rest-requires-clause-events
take_rest-requires-clause-events c = subst (λ n. n + length c.args.reader.now.rest ≤ 2 ^ 24) (sym c.take_step.ensures.events) c.requires.events

pub returns-in-Ok-Quiet : goal.returns-in-Ok-Quiet
returns-in-Ok-Quiet c =
    let d = c.args.run in
    let e = c.take_step.new.run in
    let (quiet, same) : FindsStep Found.Quiet (told_of d) (front_of d) (front_of e) c.args.rest.now c.args.lines =
    subst (λ (f : Found). FindsStep f (told_of d) (front_of d) (front_of e) c.args.rest.now c.args.lines) c.in-Ok-Quiet.field-0-is c.in-Ok-Quiet.ensures.finds
    in
    turns_same c.take_rest.result d e c.args.reader.now c.args.rest.now c.args.lines c.take_rest.new.reader c.take_step.ensures.told c.take_step.ensures.events same c.take_rest.ensures
