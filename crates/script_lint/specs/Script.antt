-- What is wrong with a line, and with each line of a script.
use Rattle.std.specs.Prelude.{ℕ, ◌+◌, Bool, true, false, nat_le, List, [], ◌∷◌, ◌++◌, length, Option, Some, None, Result, Ok, Err, if◌then◌else◌}
use Rattle.std.specs.Str.Lines.{strip_carriage_return}
use Rattle.device_ids.specs.Cuts.{parts}
use Rattle.script_reader.specs.Words.{words_of}
use Rattle.script_reader.specs.Script.{Meaning, nothing, means, bad, is_comment, whole_line, last_line, Trace, gives, waits, ends, stops}
use Rattle.script_reader.specs.Faults.{Fault, fault, seen}
use Rattle.script_reader.specs.Lines.{read_line}
use Rattle.script_reader.specs.declared.cause.Cause.{Cause}
use Rattle.script_lint.specs.declared.script.BadLine.{BadLine}

abbrev pub fault_in : {A : Type 0} → Result A Fault → Option Fault
fault_in (Ok x) = None
fault_in (Err f) = Some f

-- no words, or a comment; else what is wrong with the words
abbrev pub words_fault : List (List ℕ) → Option Fault
words_fault [] = None
words_fault (word ∷ words) = if is_comment word then None else fault_in (read_line (word ∷ words))

abbrev pub text_fault : List ℕ → Option Fault
text_fault text = words_fault (words_of text)

-- a line of at most 4,096 bytes; one CR at its end is dropped where an LF is behind it
abbrev pub body_of : Bool → List ℕ → List ℕ
body_of ended line = if ended then strip_carriage_return line else line

abbrev pub line_fault : Bool → List ℕ → Option Fault
line_fault ended line = if nat_le (length line) 4096 then text_fault (body_of ended line) else Some (fault Cause.LongLine line)

-- what the reader says of the line
abbrev pub meaning : Bool → List ℕ → Meaning
meaning ended line = if ended then whole_line line else last_line line

abbrev pub is_bad : Meaning → Bool
is_bad nothing = false
is_bad (means event) = false
is_bad bad = true

-- a bad line: its number, counted from 1, and what is wrong with it
pub record Bad : Type 0 where
  pub line : ℕ
  pub fault : Fault

-- as the code has it
abbrev pub told : BadLine → Bad
told b = record { line = b.line; fault = seen b.fault }

abbrev pub found_at : ℕ → Option Fault → List Bad
found_at number None = []
found_at number (Some f) = record { line = number; fault = f } ∷ []

-- what stands behind the last LF, if anything does
abbrev pub last_faults : ℕ → List ℕ → List Bad
last_faults passed [] = []
last_faults passed (byte ∷ rest) = found_at (passed + 1) (line_fault false (byte ∷ rest))

abbrev pub faults_from : ℕ → List (List ℕ) → List Bad
faults_from passed [] = []
faults_from passed (rest ∷ []) = last_faults passed rest
faults_from passed (line ∷ next ∷ lines) = found_at (passed + 1) (line_fault true line) ++ faults_from (passed + 1) (next ∷ lines)

-- the bad lines of a script
abbrev pub faults_in : List ℕ → List Bad
faults_in script = faults_from 0 (parts 0x0A script)

abbrev pub first_line : List Bad → Option ℕ
first_line [] = None
first_line (b ∷ bs) = Some b.line

-- the number of the bad line that ends what a script gives, if one does
abbrev pub stop_of : Trace → Option ℕ
stop_of (gives number event rest) = stop_of rest
stop_of waits = None
stop_of ends = None
stop_of (stops number) = Some number
