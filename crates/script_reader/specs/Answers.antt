-- The answers of a reader.
use Rattle.std.specs.Prelude.{◌≡◌, ◌+◌, true, [], ◌∷◌, List, length, ◌<◌}
use Rattle.script_reader.specs.declared.next.Next.{Next}
use Rattle.script_reader.specs.declared.next.Next.TheVariants as nexts
use Rattle.script_reader.specs.declared.line.Line.{Line}
use Rattle.script_reader.specs.Reading.{Reading, Moves}
use Rattle.script_reader.specs.Script.{IsStuck, Waits, Ends}

-- the events that an answer gives
abbrev pub given : Next → Reading → List Line
given (nexts.Event event) new = record { line = new.line; event = event } ∷ []
given nexts.NeedMore new = []
given nexts.End new = []
given (nexts.Bad line) new = []

abbrev pub Answers : Next → Reading → Reading → Type 0
Answers (nexts.Event event) old new = Moves old new (given (nexts.Event event) new) × (length new.rest < length old.rest)
Answers nexts.NeedMore old new = Moves old new [] × (new.line ≡ old.line) × Waits new.finished new.rest × (new.stored ≡ length new.rest)
Answers nexts.End old new = Moves old new [] × (new.line ≡ old.line) × Ends new.finished new.rest
Answers (nexts.Bad line) old new = Moves old new [] × (new.bad ≡ true) × (new.line ≡ line) × (line ≡ new.passed + 1) × IsStuck new.finished new.rest
