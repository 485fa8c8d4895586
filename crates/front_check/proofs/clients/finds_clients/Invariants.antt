use Rattle.std.proofs.Common.{◌≡◌, Bool, length, true}
use Rattle.front_check.specs.Clients.{IfClients, to_come}
use Rattle.front_check.proofs.clients.finds_clients.Given as goal

abbrev pub invariant-events : goal.invariant-events
invariant-events l = record {
  finished : l.reader.finished ≡ true;
  leads : (found : Bool) → IfClients found (to_come l.reader) → IfClients found (to_come l.fn.reader);
}

abbrev pub decreases-events : goal.decreases-events
decreases-events l = length l.reader.rest
