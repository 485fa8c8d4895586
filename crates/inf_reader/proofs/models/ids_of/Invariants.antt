use Rattle.std.proofs.Common.{◌≡◌, take}
use Rattle.inf_reader.proofs.models.ids_of.Given as goal

abbrev pub invariant-loop-at : goal.invariant-loop-at
invariant-loop-at l = l.ids ≡ take l.at l.texts
