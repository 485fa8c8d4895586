use Rattle.std.proofs.Common.{◌≡◌, take}
use Rattle.start_sequence.proofs.next.taller.Given as goal

abbrev pub invariant-loop-at : goal.invariant-loop-at
invariant-loop-at l = l.new ≡ take l.at l.stack
