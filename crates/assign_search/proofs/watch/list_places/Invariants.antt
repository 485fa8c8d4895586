use Rattle.assign_search.specs.Walking.{held_in}
use Rattle.assign_search.proofs.Watched.{PlacesSoFar}
use Rattle.assign_search.proofs.watch.list_places.Given as goal

abbrev pub invariant-groups : goal.invariant-groups
invariant-groups l = PlacesSoFar (held_in l.board) l.list l.places l.at
