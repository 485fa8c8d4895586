-- What the front of a line leads to: its keyword, with the path where one path alone follows it.
use Rattle.std.specs.Prelude.{◌≡◌, true, false, Result, Ok, Err}
use Rattle.pnp_labels.specs.declared.event.Event.{Event}
use Rattle.script_reader.specs.declared.events.Opening.{Opening}
use Rattle.script_reader.specs.declared.events.Opening.TheVariants as openings
use Rattle.script_reader.specs.declared.fault.LineError.{LineError}
use Rattle.script_reader.specs.Faults.{Fault, Fails}
use Rattle.script_reader.specs.Lines.{takes_one_path, event_at, read_by}
use Rattle.script_reader.specs.Words.{words_of}

-- with what follows it leads to what reading the line gives
abbrev pub LeadsTo : Opening → Result Event Fault → Type 0
LeadsTo (openings.At keyword path) read = (takes_one_path keyword ≡ true) × (read ≡ Ok (event_at keyword path))
LeadsTo (openings.By event keyword rest) read = (takes_one_path event ≡ false) × (read ≡ read_by event keyword.now (words_of rest.now))

-- the same of what a call gave, unless memory ran out
abbrev pub GivesOpening : Result Opening LineError → Result Event Fault → Type 0
GivesOpening (Ok line) read = LeadsTo line read
GivesOpening (Err fault) read = Fails fault read
