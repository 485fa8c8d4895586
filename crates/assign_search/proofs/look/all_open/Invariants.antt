use Rattle.assign_search.specs.Walking.{HasOpen, held_in}
use Rattle.assign_search.proofs.Rest.{SameAll}
use Rattle.assign_search.proofs.look.all_open.Given as goal

abbrev pub invariant-groups : goal.invariant-groups
invariant-groups l = SameAll (HasOpen (held_in l.board)) l.list l.from l.at
