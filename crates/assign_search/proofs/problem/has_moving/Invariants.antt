use Rattle.std.proofs.Common.{◌≡◌, false, take}
use Rattle.assign_search.specs.Fixed.{has_moving}
use Rattle.assign_search.proofs.problem.has_moving.Given as goal

abbrev pub invariant-pairs : goal.invariant-pairs
invariant-pairs l = has_moving l.serials (take l.pair-index l.pairs) ≡ false
