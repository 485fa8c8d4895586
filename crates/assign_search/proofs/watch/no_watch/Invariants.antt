use Rattle.std.proofs.Common.{◌≡◌, length}
use Rattle.assign_search.proofs.watch.no_watch.Given as goal

abbrev pub invariant-movers : goal.invariant-movers
invariant-movers l = length l.places ≡ l._mover-index
