use Rattle.std.proofs.Common.{eq-eqb}
use Rattle.device_ids.proofs.Places.{row_more, row_has, stands, stands_nowhere}
use Rattle.device_ids.proofs.cuts.place_of.Goals as goal

pub returns-then-place-lt-ROW : goal.returns-then-place-lt-ROW
returns-then-place-lt-ROW c =
    row_has c.args.bytes.now c.copy_from_slice.new.self c.args.byte c.loop-at.at c.place_in_row-place.result c.loop-at-test.true c.copy_from_slice.ensures.after c.place_in_row-place.ensures c.if-place-lt-ROW.true c.loop-at.invariant.1

pub loop-at-preserved : goal.loop-at-preserved
loop-at-preserved c = (
  c.loop-at-test.true,
  row_more c.args.bytes.now c.copy_from_slice.new.self c.args.byte c.loop-at.at c.place_in_row-place.result c.copy_from_slice.ensures.after c.place_in_row-place.ensures c.if-place-lt-ROW.false c.loop-at.invariant.1,
)

pub returns-then-bytes-at : goal.returns-then-bytes-at
returns-then-bytes-at c = stands c.args.bytes.now c.args.byte c.loop-at-2.at c.loop-at-2-test.true c.loop-at-2.invariant (eq-eqb _ _ c.if-bytes-at.true)

pub returns : goal.returns
returns c = stands_nowhere c.args.bytes.now c.args.byte c.loop-at-2.at c.loop-at-2-test.false c.loop-at-2.invariant
