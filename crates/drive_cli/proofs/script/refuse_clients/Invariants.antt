use Rattle.std.proofs.Common.{◌≡◌, length, true}
use Rattle.script_reader.specs.Script.{trace}
use Rattle.live_laws.specs.Scripts.{HasNoClients}
use Rattle.drive_cli.proofs.script.refuse_clients.Given as goal

abbrev pub decreases-events : goal.decreases-events
decreases-events l = length l.reader.rest

abbrev pub invariant-events : goal.invariant-events
invariant-events l = record {
  finished : l.reader.finished ≡ true;
  before : HasNoClients (trace true l.reader.passed l.reader.rest) → HasNoClients (trace true 0 l.script);
  after : HasNoClients (trace true 0 l.script) → HasNoClients (trace true l.reader.passed l.reader.rest);
}
