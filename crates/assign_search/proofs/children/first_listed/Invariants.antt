use Rattle.std.proofs.Common.{map}
use Rattle.assign_search.specs.Fixed.{reqs_of}
use Rattle.assign_search.specs.Walking.{SameFrom}
use Rattle.assign_search.proofs.children.first_listed.Given as goal

abbrev pub invariant-movers : goal.invariant-movers
invariant-movers l = SameFrom (map reqs_of l.movers) l.from l.at
