use Rattle.script_reader.proofs.Wording.{Front}
use Rattle.script_reader.proofs.first.has_no_event.Given as goal

abbrev pub invariant-loop-byte : goal.invariant-loop-byte
invariant-loop-byte l = Front l.line l.byte-index
