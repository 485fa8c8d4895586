use Rattle.std.proofs.Common.{◌≡◌, take}
use Rattle.relations.proofs.serial_set.SerialSet.of.Given as goal

abbrev pub invariant-loop-at : goal.invariant-loop-at
invariant-loop-at l = l.set ≡ take l.at l.serials
