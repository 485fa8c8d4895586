use Rattle.std.proofs.Common.{◌-◌, ◌/◌, ◌∙◌, drop, false, refl, sym, ap, arith, length-set, drop_of_length-le}
use Rattle.std.proofs.Math.Seq.{take-set-le}
use Rattle.std.specs.Fmt.{digits_onto}
use Rattle.pnp_labels.proofs.Written.{digits_begin, digits_last, digits_step, drop_written, shorter}
use Rattle.pnp_labels.proofs.digits.put_digits.Goals as goal

pub loop-at-init : goal.loop-at-init
loop-at-init c = (
  omega arith,
  c.told-row,
  ap (digits_onto 64 c.args.base false c.args.number) (drop_of_length-le c.args.row.now {i = 64} (omega (arith, c.told-row))) ∙ digits_begin c.args.base c.args.number,
  refl,
)

pub loop-at-preserved : goal.loop-at-preserved
loop-at-preserved c =
    let l = c.loop-at in
    let a = c.args in
    let kept = length-set l.row (l.at - 1) c.glyph.result ∙ l.invariant.1 in
    let written = ap (digits_onto (l.at - 1) a.base false (l.rest / a.base)) (drop_written l.row l.at _ _ c.loop-at-test.true (omega arith) c.glyph.ensures) in (
      omega arith,
      kept,
      written ∙ sym (digits_step a.base l.rest (drop l.at l.row) l.at c.loop-at-test.true c.if-rest-eq0.false) ∙ l.invariant.2,
      take-set-le _ _ _ _ (omega arith) ∙ shorter _ l.at _ _ (omega arith) l.invariant.3,
    )

pub returns-then-rest-eq0 : goal.returns-then-rest-eq0
returns-then-rest-eq0 c =
    let l = c.loop-at in
    let a = c.args in
    let written = drop_written l.row l.at _ _ c.loop-at-test.true (omega arith) c.glyph.ensures in
    record {
      within = omega arith;
      value = written ∙ sym (digits_last a.base l.rest (drop l.at l.row) l.at c.loop-at-test.true c.if-rest-eq0.true) ∙ l.invariant.2;
      front = take-set-le _ _ _ _ (omega arith) ∙ shorter _ l.at _ _ (omega arith) l.invariant.3;
    }
