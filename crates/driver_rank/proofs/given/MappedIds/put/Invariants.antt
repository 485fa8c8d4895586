use Rattle.std.proofs.Common.{◌≡◌, ◌≤◌, ℕ, List, length, drop}
use Rattle.driver_rank.specs.Best.{given_from}
use Rattle.driver_rank.specs.Lookups.{base_mapped, base_with}
use Rattle.driver_rank.proofs.given.MappedIds.put.Given as goal

abbrev pub invariant-loop-at : goal.invariant-loop-at
invariant-loop-at l = record {
  within : l.at ≤ length l.ids;
  found : (q : List ℕ) → base_mapped l.self q ≡ base_with (base_mapped l.initial.self) (given_from l.compatible l.at (drop l.at l.ids)) q;
}

abbrev pub decreases-loop-at : goal.decreases-loop-at
decreases-loop-at l = l.at
