use Rattle.script_reader.proofs.Rows.{Missed}
use Rattle.script_family.proofs.lines.among.Given as goal

abbrev pub invariant-loop-row : goal.invariant-loop-row
invariant-loop-row g l = Missed l.rows l.word l.row-index
