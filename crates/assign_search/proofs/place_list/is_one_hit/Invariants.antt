use Rattle.resource_reqs.proofs.Loops.{NoneBelow}
use Rattle.resource_reqs.specs.Resources.{Clash}
use Rattle.assign_search.proofs.place_list.is_one_hit.Given as goal

abbrev pub invariant-places : goal.invariant-places
invariant-places l = NoneBelow (λ place. Clash place l.res) l.places l.at
