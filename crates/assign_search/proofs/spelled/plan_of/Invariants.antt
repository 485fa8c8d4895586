use Rattle.std.proofs.Common.{◌≡◌, ◌≤◌, ◌++◌, length, drop, map}
use Rattle.assign_search.specs.Fixed.{reqs_of}
use Rattle.assign_search.specs.Walking.{plan_in}
use Rattle.assign_search.proofs.spelled.plan_of.Given as goal

abbrev pub invariant-movers : goal.invariant-movers
invariant-movers l = record {
  within : l.at ≤ length l.path;
  planned : l.plan ++ plan_in (drop l.mover (map reqs_of l.movers)) (drop l.at l.path) ≡ plan_in (map reqs_of l.movers) l.path;
}
