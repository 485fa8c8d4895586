-- What a whole script gives.
use Rattle.std.specs.Prelude.{◌≡◌, ◌+◌, Option, Some, None}
use Rattle.script_reader.specs.declared.line.ScriptEnd.{ScriptEnd}
use Rattle.script_reader.specs.declared.line.ScriptEnd.TheVariants as script_ends
use Rattle.script_reader.specs.declared.line.Script.{Script}
use Rattle.script_reader.specs.Reading.{Reading, give_all}
use Rattle.script_reader.specs.Script.{Trace, ends, stops, IsStuck, Waits, Ends}

abbrev pub end_of : ScriptEnd → Trace
end_of script_ends.End = ends
end_of (script_ends.Bad line) = stops line

-- its events, and then its end
abbrev pub trace_of : Script → Trace
trace_of script = give_all script.lines.items (end_of script.ends)

-- how a reader stands that has given all its events
abbrev pub Settles : Option ScriptEnd → Reading → Type 0
Settles None r = Waits r.finished r.rest
Settles (Some script_ends.End) r = Ends r.finished r.rest
Settles (Some (script_ends.Bad line)) r = IsStuck r.finished r.rest × (line ≡ r.passed + 1)
