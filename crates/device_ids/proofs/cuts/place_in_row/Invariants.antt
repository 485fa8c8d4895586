use Rattle.device_ids.proofs.Places.{Least}
use Rattle.device_ids.proofs.cuts.place_in_row.Given as goal

abbrev pub invariant-loop-at : goal.invariant-loop-at
invariant-loop-at l = Least l.row l.byte l.at l.place
