use Rattle.std.proofs.Common.{length}
use Rattle.script_reader.proofs.Pieces.{Fed}
use Rattle.script_reader.proofs.whole.read_pieces.Given as goal

abbrev pub invariant-loop-rest : goal.invariant-loop-rest
invariant-loop-rest l = Fed l.script l.rest l.lines.items l.reader

abbrev pub decreases-loop-rest : goal.decreases-loop-rest
decreases-loop-rest l = length l.rest
