-- Whether a script has lines of clients.
use Rattle.std.specs.Prelude.{◌≡◌, ◌<◌, Bool, true, false, length}
use Rattle.pnp_labels.specs.declared.event.Event.{Event}
use Rattle.script_reader.specs.Reading.{Reading}
use Rattle.script_reader.specs.Script.{Trace, trace}
use Rattle.free_model.specs.Checks.{IsOfMachine}
use Rattle.front_check.specs.Laws.{HasNoClients}
use Rattle.front_check.specs.declared.clients.Ahead.{Ahead}

-- a test tells whether a script has a line of a client
abbrev pub IfClients : Bool → Trace → Type 0
IfClients true script = HasNoClients script → ⊥
IfClients false script = HasNoClients script

-- what a reader that was fed whole has still to come
abbrev pub to_come : Reading → Trace
to_come reader = trace true reader.passed reader.rest

-- whose event this is
abbrev pub IsAheadOf : Ahead → Event → Type 0
IsAheadOf Ahead.Client event = IsOfMachine event → ⊥
IsAheadOf Ahead.Other event = IsOfMachine event
IsAheadOf Ahead.Over event = ⊥

-- what is ahead; behind an event of the machine there are clients exactly where there are some before it
abbrev pub IsAhead : Ahead → Reading → Reading → Type 0
IsAhead Ahead.Client old new = HasNoClients (to_come old) → ⊥
IsAhead Ahead.Over old new = HasNoClients (to_come old)
IsAhead Ahead.Other old new =
    (HasNoClients (to_come new) → HasNoClients (to_come old)) × (HasNoClients (to_come old) → HasNoClients (to_come new))
    × (length new.rest < length old.rest) × (new.finished ≡ old.finished)
