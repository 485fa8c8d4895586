-- What is written of the bad lines of a script, and of the INFs that are refused.
use Rattle.std.specs.Prelude.{◌≡◌, ℕ, Bool, false, ◌==◌, ◌||◌, nat_lt, List, [], ◌∷◌, ◌++◌, length, take, map, codes, if◌then◌else◌}
use Rattle.std.specs.List.{flat_map}
use Rattle.std.specs.Fmt.{decimal}
use Rattle.std.specs.Str.{bytes_eq}
use Rattle.pnp_labels.specs.Texts.{Text}
use Rattle.inf_reader.specs.declared.parts.InfError.{InfError}
use Rattle.inf_reader.specs.declared.parts.InfError.TheVariants as errors
use Rattle.script_reader.specs.Faults.{Fault}
use Rattle.script_lint.specs.Script.{Bad, faults_in}
use Rattle.lint_cli.specs.Causes.{cause_text}

-- printable ASCII; all else is shown as a question mark
abbrev pub shown_byte : ℕ → ℕ
shown_byte byte = if nat_lt byte 0x20 || nat_lt 0x7E byte then 0x3F else byte

-- at most 80 bytes, and dots where that is not all
abbrev pub shown : Text → Text
shown text = if nat_lt 80 (length text) then map shown_byte (take 80 text) ++ codes ".." else map shown_byte text

abbrev pub quoted : Text → Text
quoted word = 0x22 ∷ shown word ++ codes "\" "

-- a name of a file is written as it is, so that an editor finds it; only a byte that steers a terminal is shown as a question mark
abbrev pub name_byte : ℕ → ℕ
name_byte byte = if nat_lt byte 0x20 || byte == 0x7F then 0x3F else byte

abbrev pub shown_name : Text → Text
shown_name name = map name_byte name

-- `FILE:LINE: `
abbrev pub place_text : Text → ℕ → Text
place_text file line = shown_name file ++ (codes ":" ++ (decimal line ++ codes ": "))

abbrev pub error_head : Text → ℕ → Text
error_head file line = place_text file line ++ codes "error: "

abbrev pub warning_head : Text → ℕ → Text
warning_head file line = place_text file line ++ codes "warning: "

-- `"WORD" CAUSE`
abbrev pub fault_words : Fault → Text
fault_words f = quoted f.word ++ cause_text f.cause

abbrev pub fault_text : Fault → Text
fault_text f = quoted f.word ++ (cause_text f.cause ++ 10 ∷ [])

-- `FILE:LINE: error: "WORD" CAUSE`
abbrev pub bad_text : Text → Bad → Text
bad_text file b = error_head file b.line ++ fault_text b.fault

-- a line for each bad line of the script
abbrev pub bad_texts : Text → List ℕ → Text
bad_texts file script = flat_map (bad_text file) (faults_in script)

-- no line of a script begins as a section or a comment of an INF does
abbrev pub is_space : ℕ → Bool
is_space byte = byte == 0x20 || (byte == 0x09 || (byte == 0x0D || byte == 0x0A))

abbrev pub opens_inf : List ℕ → Bool
opens_inf [] = false
opens_inf (byte ∷ script) = if is_space byte then opens_inf script else byte == 0x5B || byte == 0x3B

-- nor with a mark of UTF-16
abbrev pub is_marked : List ℕ → Bool
is_marked script = bytes_eq (take 2 script) (0xFF ∷ 0xFE ∷ []) || bytes_eq (take 2 script) (0xFE ∷ 0xFF ∷ [])

abbrev pub is_inf : List ℕ → Bool
is_inf script = is_marked script || opens_inf script

-- what is told of an INF that is given as the script
abbrev pub misplaced_text : Text → Text
misplaced_text file = error_head file 1 ++ codes "this begins as an INF does: the script comes first, its comments begin with #, and behind --inf there is none\n"

-- what is written of the script: its bad lines; of an INF in its place no line, but that it is one
abbrev pub script_text : Text → List ℕ → Text
script_text file script = if is_inf script then misplaced_text file else bad_texts file script

abbrev pub error_text : InfError → Text
error_text errors.NoSignature = codes "[Version] has no Signature of $Windows NT$ or $CHICAGO$"
error_text (errors.OpenHeader line) = codes "a header has no ]"
error_text (errors.LineTooLong line) = codes "the line has more than 4096 bytes"
error_text (errors.BadDate line) = codes "DriverVer is no date MM/DD/YYYY, or the version behind it is none"
error_text (errors.BadScore line) = codes "FeatureScore is no number up to 255"
error_text errors.WantOfMemory = codes "out of memory"

-- the line that an error stands on; what is missing from the whole file is told at its first line
abbrev pub error_line : InfError → ℕ
error_line errors.NoSignature = 1
error_line (errors.OpenHeader line) = line
error_line (errors.LineTooLong line) = line
error_line (errors.BadDate line) = line
error_line (errors.BadScore line) = line
error_line errors.WantOfMemory = 1

-- `FILE:LINE: error: ERROR`, behind which the line is shown
abbrev pub inf_text : Text → InfError → Text
inf_text name error = error_head name (error_line error) ++ error_text error

-- the line of an INF that is shown behind its error, if it has some bytes
abbrev pub line_text : Text → Text
line_text [] = 10 ∷ []
line_text (byte ∷ line) = codes ": \"" ++ shown (byte ∷ line) ++ codes "\"\n"

-- a text, and then more
abbrev pub IsFront : Text → Text → Type 0
IsFront old new = (more : Text) × (new ≡ old ++ more)
