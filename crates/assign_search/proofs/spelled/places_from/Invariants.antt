use Rattle.std.proofs.Common.{◌≡◌, ◌≤◌, ◌-◌, ◌++◌, length, drop}
use Rattle.assign_search.specs.Walking.{places_of, rest_of}
use Rattle.assign_search.proofs.spelled.places_from.Given as goal

abbrev pub invariant-frames : goal.invariant-frames
invariant-frames l = record {
  within : l.at ≤ length l.path;
  holds : l.holds ++ places_of (drop l.at l.path) ≡ places_of (drop l.from l.path);
  rest : rest_of (drop l.at l.path) ≡ rest_of (drop l.from l.path);
}

abbrev pub decreases-frames : goal.decreases-frames
decreases-frames l = length l.path - l.at
