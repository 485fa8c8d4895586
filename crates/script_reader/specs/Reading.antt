-- A reader as its callers see it, and what its calls do.
use Rattle.std.specs.Prelude.{◌≡◌, ℕ, ◌+◌, ◌<◌, ◌≤◌, ◌^◌, Bool, true, List, [], ◌∷◌, ◌++◌, length, drop, take}
use Rattle.script_reader.specs.declared.line.Line.{Line}
use Rattle.script_reader.specs.Script.{Trace, gives, trace, MayFollow, IsStuck}

pub record Reading : Type 0 where
  -- the bytes fed that no call has passed yet
  pub rest : List ℕ
  -- the lines passed
  pub passed : ℕ
  -- the line of the last event or bad line
  pub line : ℕ
  -- the bytes fed in all
  pub fed : ℕ
  -- the bytes kept in memory
  pub stored : ℕ
  pub finished : Bool
  pub bad : Bool

-- these events first, each with its line's number
abbrev pub give_all : List Line → Trace → Trace
give_all [] rest = rest
give_all (line ∷ lines) rest = gives line.line line.event (give_all lines rest)

-- Passes from old to new, and gives these events: so is the script read, however it goes on.
pub record Moves (old new : Reading) (events : List Line) : Type 0 where
  pub front : List ℕ
  pub whole : old.rest ≡ front ++ new.rest
  pub same : (later : Bool) (more : List ℕ) → MayFollow old.finished new.rest later more
      → trace later old.passed (front ++ more) ≡ give_all events (trace later new.passed more)
  pub finished : new.finished ≡ old.finished
  pub fed : new.fed ≡ old.fed
  pub stored : new.stored ≤ old.stored

-- All these bytes were fed, and these events were given: the trace of all the bytes is these events, and then that of the rest.
pub record HasRead (all : List ℕ) (events : List Line) (r : Reading) : Type 0 where
  pub front : List ℕ
  pub whole : all ≡ front ++ r.rest
  pub same : (later : Bool) (more : List ℕ) → MayFollow r.finished r.rest later more
      → trace later 0 (front ++ more) ≡ give_all events (trace later r.passed more)

-- what the calls leave
pub record IsReading (r : Reading) : Type 0 where
  pub lines : r.passed + length r.rest ≤ r.fed
  pub few : r.fed < 2 ^ 63
  pub line : r.line ≤ r.passed + 1
  pub stored : length r.rest ≤ r.stored
  pub stuck : r.bad ≡ true → IsStuck r.finished r.rest × (r.line ≡ r.passed + 1)

-- so many bytes are passed, so many lines, and none has an event
pub record SkipsTo (finished : Bool) (rest : List ℕ) (count lines : ℕ) : Type 0 where
  pub inside : count ≤ length rest
  pub few : lines ≤ count
  pub same : (later : Bool) (more : List ℕ) (passed : ℕ) → MayFollow finished (drop count rest) later more
      → trace later passed (take count rest ++ more) ≡ trace later (passed + lines) more
