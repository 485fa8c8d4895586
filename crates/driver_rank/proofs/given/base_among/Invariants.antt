use Rattle.std.proofs.Common.{◌≡◌, take, drop}
use Rattle.device_ids.specs.Folding.{folded}
use Rattle.driver_rank.specs.Best.{given_from}
use Rattle.driver_rank.specs.Lookups.{base_of, base_among}
use Rattle.driver_rank.proofs.given.base_among.Given as goal

abbrev pub invariant-loop-at : goal.invariant-loop-at
invariant-loop-at l = base_of (given_from l.compatible l.at (drop l.at (take 4 l.ids))) (folded l.id) ≡ base_among l.compatible l.ids (folded l.id)
