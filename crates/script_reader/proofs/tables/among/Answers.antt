use Rattle.script_reader.proofs.Rows.{missed_next, found_row}
use Rattle.script_reader.proofs.tables.among.Goals as goal

pub returns-then-is_same : goal.returns-then-is_same
returns-then-is_same g c = found_row c.args.rows.now c.args.word.now c.loop-row.row-index c.row-item.result c.is_same.result c.loop-row-test.true c.row-item.is c.is_same.ensures c.if-is_same.true c.loop-row.invariant

pub loop-row-preserved : goal.loop-row-preserved
loop-row-preserved g c = missed_next c.args.rows.now c.args.word.now c.loop-row.row-index c.row-item.result c.is_same.result c.loop-row-test.true c.row-item.is c.is_same.ensures c.if-is_same.false c.loop-row.invariant
