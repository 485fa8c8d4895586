use Rattle.resource_reqs.proofs.Loops.{NoneBelow}
use Rattle.assign_search.specs.Walking.{Touches}
use Rattle.assign_search.proofs.look.touches_group.Given as goal

abbrev pub invariant-wants : goal.invariant-wants
invariant-wants l = NoneBelow (λ want. Touches want l.res) l.group l.at
