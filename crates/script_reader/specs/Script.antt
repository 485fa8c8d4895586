-- What a script gives: its events with the numbers of their lines, and how it ends.
use Rattle.std.specs.Prelude.{◌≡◌, ℕ, ◌+◌, ◌<◌, ◌≤◌, Bool, true, false, ◌==◌, nat_le, List, [], ◌∷◌, ◌++◌, length, Option, Some, None, if◌then◌else◌, take, drop}
use Rattle.std.specs.Str.Lines.{strip_carriage_return}
use Rattle.device_ids.specs.Cuts.{parts}
use Rattle.pnp_labels.specs.declared.event.Event.{Event}
use Rattle.script_reader.specs.Words.{words_of}
use Rattle.script_reader.specs.Lines.{event_of}

-- what a line means
pub data Meaning : Type 0 where
  nothing : Meaning
  means : Event → Meaning
  bad : Meaning

abbrev pub event_or_bad : Option Event → Meaning
event_or_bad None = bad
event_or_bad (Some event) = means event

-- whether the word begins with a number sign
abbrev pub is_comment : List ℕ → Bool
is_comment [] = false
is_comment (byte ∷ bytes) = byte == 0x23

-- no words, or a comment; else an event or a bad line
abbrev pub meaning_of : List (List ℕ) → Meaning
meaning_of [] = nothing
meaning_of (word ∷ words) = if is_comment word then nothing else event_or_bad (event_of (word ∷ words))

-- a line before its LF: at most 4,096 bytes; one CR at its end is dropped
abbrev pub whole_line : List ℕ → Meaning
whole_line line = if nat_le (length line) 4096 then meaning_of (words_of (strip_carriage_return line)) else bad

-- the last line, without LF
abbrev pub last_line : List ℕ → Meaning
last_line line = if nat_le (length line) 4096 then meaning_of (words_of line) else bad

-- The events of lines, each with its line's number; then more is needed, or the script ends, or a line is bad.
pub data Trace : Type 0 where
  gives : ℕ → Event → Trace → Trace
  waits : Trace
  ends : Trace
  stops : ℕ → Trace

abbrev pub onward : ℕ → Meaning → Trace → Trace
onward number nothing rest = rest
onward number (means event) rest = gives number event rest
onward number bad rest = stops number

-- what stands behind the last LF, after so many lines
abbrev pub at_end : Bool → ℕ → List ℕ → Trace
at_end true passed [] = ends
at_end true passed (byte ∷ rest) = onward (passed + 1) (last_line (byte ∷ rest)) ends
at_end false passed rest = if nat_le (length rest) 4096 then waits else stops (passed + 1)

abbrev pub of_lines : Bool → ℕ → List (List ℕ) → Trace
of_lines finished passed [] = ends
of_lines finished passed (rest ∷ []) = at_end finished passed rest
of_lines finished passed (line ∷ next ∷ lines) = onward (passed + 1) (whole_line line) (of_lines finished (passed + 1) (next ∷ lines))

-- what these bytes give, after so many lines
abbrev pub trace : Bool → ℕ → List ℕ → Trace
trace finished passed bytes = of_lines finished passed (parts 0x0A bytes)

-- how a step may go on: as it likes, but after the finish with nothing
abbrev pub MayFollow : Bool → List ℕ → Bool → List ℕ → Type 0
MayFollow finished rest later more = finished ≡ true → (later ≡ true) × (more ≡ rest)

-- how the first line of the rest is read, however the script goes on
pub record Skips (finished : Bool) (rest : List ℕ) (count : ℕ) : Type 0 where
  pub inside : count ≤ length rest
  pub some : 0 < count
  pub same : (later : Bool) (more : List ℕ) (passed : ℕ) → MayFollow finished (drop count rest) later more
      → trace later passed (take count rest ++ more) ≡ trace later (passed + 1) more

pub record GivesEvent (finished : Bool) (rest : List ℕ) (count : ℕ) (event : Event) : Type 0 where
  pub inside : count ≤ length rest
  pub some : 0 < count
  pub same : (later : Bool) (more : List ℕ) (passed : ℕ) → MayFollow finished (drop count rest) later more
      → trace later passed (take count rest ++ more) ≡ gives (passed + 1) event (trace later (passed + 1) more)

pub record IsStuck (finished : Bool) (rest : List ℕ) : Type 0 where
  pub same : (later : Bool) (more : List ℕ) (passed : ℕ) → MayFollow finished [] later more
      → trace later passed (rest ++ more) ≡ stops (passed + 1)

-- no whole line is left, and not too much of the next
pub record Waits (finished : Bool) (rest : List ℕ) : Type 0 where
  pub open_ : finished ≡ false
  pub no_line : parts 0x0A rest ≡ rest ∷ []
  pub short : length rest ≤ 4096
  pub same : (passed : ℕ) → trace false passed rest ≡ waits

pub record Ends (finished : Bool) (rest : List ℕ) : Type 0 where
  pub shut : finished ≡ true
  pub empty : rest ≡ []
