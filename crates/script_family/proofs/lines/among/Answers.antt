use Rattle.script_reader.proofs.Rows.{missed_next, found_row}
use Rattle.script_family.proofs.lines.among.Goals as goal

pub returns-then-eq : goal.returns-then-eq
returns-then-eq g c = found_row c.args.rows.now c.args.word.now c.loop-row.row-index c.row-item.result c.eq.result c.loop-row-test.true c.row-item.is c.eq.ensures c.if-eq.true c.loop-row.invariant

pub loop-row-preserved : goal.loop-row-preserved
loop-row-preserved g c = missed_next c.args.rows.now c.args.word.now c.loop-row.row-index c.row-item.result c.eq.result c.loop-row-test.true c.row-item.is c.eq.ensures c.if-eq.false c.loop-row.invariant
