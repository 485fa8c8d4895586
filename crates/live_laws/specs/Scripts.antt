-- Scripts without lines of clients, and how the run of a whole script ends.
use Rattle.std.specs.Prelude.{Option, Some, None}
use Rattle.script_reader.specs.Script.{Trace, gives, waits, ends, stops}
use Rattle.free_model.specs.Checks.{IsOfMachine}
use Rattle.live_model.specs.Outputs.{Ended, BadLine, Done}

-- no line is one of a client
abbrev pub HasNoClients : Trace → Type 0
HasNoClients (gives number event rest) = IsOfMachine event × HasNoClients rest
HasNoClients ends = Unit {0}
HasNoClients (stops number) = Unit {0}
HasNoClients waits = Unit {0}

-- done, or with a bad line
abbrev pub end_of : Trace → Option Ended
end_of (gives number event rest) = end_of rest
end_of ends = Some Done
end_of (stops number) = Some BadLine
end_of waits = None

-- it was read to its end, and no more bytes are waited for
abbrev pub IsWhole : Trace → Type 0
IsWhole (gives number event rest) = IsWhole rest
IsWhole ends = Unit {0}
IsWhole (stops number) = Unit {0}
IsWhole waits = ⊥
