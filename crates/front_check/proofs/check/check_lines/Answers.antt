use Rattle.std.proofs.Common.{◌≡◌, ◌+◌, ◌-◌, ◌<◌, ◌≤◌, length, take, drop, ap, ◌∙◌, subst, arith, length-drop}
use Rattle.std.proofs.lemmas.List.{take_rest}
use Rattle.pnp_labels.specs.Texts.{Text}
use Rattle.notify_front.specs.Desks.{front_of, told_of}
use Rattle.front_check.specs.declared.turn.Turn.{Turn}
use Rattle.front_check.specs.Turns.{IsTurn, Tells, place}
use Rattle.front_check.proofs.Turning.{line_leads, line_within}
use Rattle.front_check.proofs.check.check_lines.Goals as goal

pub lines-preserved : goal.lines-preserved
lines-preserved c =
    let turn : IsTurn (Turn.Line c.in-Line.next c.in-Line.count) c.lines.run c.lines.reader c.lines.rest.now c.lines.lines c.take_line.new.reader =
    subst (λ (t : Turn). IsTurn t c.lines.run c.lines.reader c.lines.rest.now c.lines.lines c.take_line.new.reader) c.in-Line.is c.in_ok-next.ensures
    in
    let within = line_within c.lines.run c.in-Line.next c.lines.reader c.take_line.new.reader c.lines.rest.now c.lines.lines c.in-Line.count turn in
    let some : 0 < c.in-Line.count = within.0 in
    let most : c.in-Line.count ≤ length c.lines.rest.now = within.1 in
    let left : length (take (length c.lines.rest.now - c.in-Line.count) (drop c.in-Line.count c.lines.rest.now)) ≡ length c.lines.rest.now - c.in-Line.count =
    ap length (take_rest c.lines.rest.now c.in-Line.count) ∙ length-drop c.in-Line.count c.lines.rest.now
    in
    record {
      finished = turn.finished ∙ c.lines.invariant.finished;
      room = omega (arith, turn.room.1, c.lines.invariant.room);
      few = omega (arith, left, some, most, c.lines.invariant.few);
      leads =
          λ checked tells. c.lines.invariant.leads checked
          (line_leads c.lines.run c.in-Line.next c.lines.reader c.take_line.new.reader c.lines.rest.now c.lines.lines c.in-Line.count checked turn
          (subst (λ (t : Text). Tells checked (told_of c.in-Line.next) (place c.in-Line.next c.take_line.new.reader) t (c.lines.lines + 1)) (take_rest c.lines.rest.now c.in-Line.count) tells));
    }
