use Rattle.std.proofs.Common.{List, drop}
use Rattle.resource_reqs.specs.Resources.{Res}
use Rattle.assign_search.specs.Walking.{Adds, HasOpen, AllOpen, held_in}
use Rattle.assign_search.proofs.Rest.{SameAll}
use Rattle.assign_search.proofs.look.groups_beside.Given as goal

abbrev pub invariant-groups : goal.invariant-groups
invariant-groups l = (before : List Res) → Adds before l.res (held_in l.board) → AllOpen before (drop l.from l.list)
    → AllOpen before (drop l.at l.list) × SameAll (HasOpen (held_in l.board)) l.list l.from l.at
