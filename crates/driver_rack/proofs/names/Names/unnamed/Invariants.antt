use Rattle.std.proofs.Common.{◌≡◌, None, replicate}
use Rattle.driver_rack.proofs.names.Names.unnamed.Given as goal

abbrev pub invariant-loop : goal.invariant-loop
invariant-loop l = l.names.items ≡ replicate l.counter None
