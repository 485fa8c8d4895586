use Rattle.std.proofs.Common.{map}
use Rattle.assign_search.specs.Fixed.{reqs_of}
use Rattle.assign_search.specs.Walking.{HasOpenList, held_in}
use Rattle.assign_search.proofs.Rest.{SameAll}
use Rattle.assign_search.proofs.look.all_lists.Given as goal

abbrev pub invariant-movers : goal.invariant-movers
invariant-movers l = SameAll (HasOpenList (held_in l.board)) (map reqs_of l.movers) l.from l.at
