-- What stands in a text, in order: lines that are too long, headers, and joined lines (the driver kit, "General Syntax
-- Rules for INF Files"). The longest line, and what a text gives that breaks those rules, are this project's own.
use Rattle.std.specs.Prelude.{ℕ, ◌+◌, ◌-◌, List, [], ◌∷◌, ◌++◌, Bool, nat_lt, if◌then◌else◌, map, take, drop, length, slice_index_or}
use Rattle.std.specs.Prelude.{Option, Some, None}
use Rattle.std.specs.Str.Lines.{lines}
use Rattle.device_ids.specs.Cuts.{parts, cut_once}
use Rattle.device_ids.specs.Folding.{folded}
use Rattle.inf_reader.specs.declared.symbols.Symbol.{Symbol}
use Rattle.inf_reader.specs.declared.symbols.Symbol.TheVariants.{Mark}
use Rattle.inf_reader.specs.declared.items.Open.{Open}
use Rattle.inf_reader.specs.declared.items.Item.{Item}
use Rattle.inf_reader.specs.declared.items.Item.TheVariants.{TooLong, OpenHeader, Header, Line}
use Rattle.inf_reader.specs.Symbols.{symbols_of, is_plain, trimmed, trimmed_bytes, written}

-- a line that begins with `[`
abbrev pub is_header : List Symbol → Bool
is_header symbols = is_plain 0x5B (slice_index_or symbols 0 Mark)

-- its name stands before the first `]`, without blanks at its ends, and is kept folded
abbrev pub header_by : ℕ → Option (List ℕ × List ℕ) → Item
header_by number None = OpenHeader number
header_by number (Some p) = Header (folded (trimmed_bytes p.0))

unfoldable pub header_of : ℕ → List Symbol → Item
header_of number symbols = header_by number (cut_once 0x5D (drop 1 (map written symbols)))

-- a line of the text goes on with the next one where its own last character is a `\` outside quotes
abbrev pub goes_on : List Symbol → Bool
goes_on symbols = is_plain 0x5C (slice_index_or symbols (length symbols - 1) Mark)

-- a joined line, unless it is empty
abbrev pub joined_line : ℕ → List Symbol → List Item
joined_line number [] = []
joined_line number (s ∷ symbols) = Line number (s ∷ symbols) ∷ []

-- a line that goes on gives nothing yet, and stays open without its `\`, behind what is open before it
abbrev pub settled : ℕ → List Symbol → List Symbol → List Item
settled number before symbols = if goes_on symbols then [] else joined_line number (before ++ symbols)

abbrev pub opened : ℕ → List Symbol → List Symbol → Option Open
opened number before symbols =
    if goes_on symbols then Some (record { number = number; symbols = before ++ take (length symbols - 1) symbols }) else None

-- what the next line gives behind the line that is open, if any, and what is open then: a line that continues another
-- is no header, and has the number of the first
abbrev pub given : Option Open → ℕ → List Symbol → List Item
given None number symbols = if is_header symbols then header_of number symbols ∷ [] else settled number [] symbols
given (Some o) number symbols = settled o.number o.symbols symbols

abbrev pub open_after : Option Open → ℕ → List Symbol → Option Open
open_after None number symbols = if is_header symbols then None else opened number [] symbols
open_after (Some o) number symbols = opened o.number o.symbols symbols

-- what is open where the text ends is a joined line
abbrev pub left_open : Option Open → List Item
left_open None = []
left_open (Some o) = joined_line o.number o.symbols

-- a line as it stands in the text: how long it is before its LF, and its symbols
pub record Written : Type 0 where
  pub len : ℕ
  pub symbols : List Symbol

-- more than 4,096 bytes before the LF
abbrev pub long_mark : ℕ → ℕ → List Item
long_mark number len = if nat_lt 4096 len then TooLong number ∷ [] else []

abbrev pub items_from : Option Open → ℕ → List Written → List Item
items_from begun number [] = left_open begun
items_from begun number (w ∷ ws) = long_mark number w.len ++ (given begun number w.symbols ++ items_from (open_after begun number w.symbols) (number + 1) ws)

-- a line's symbols, without its comment and without blanks at its ends
abbrev pub symbols_in : List ℕ → List Symbol
symbols_in line = trimmed (symbols_of line)

abbrev pub written_of : ℕ → List ℕ → Written
written_of len line = record { len = len; symbols = symbols_in line }

abbrev pub zip_written : List (List ℕ) → List (List ℕ) → List Written
zip_written parts [] = []
zip_written [] (line ∷ more) = []
zip_written (part ∷ parts) (line ∷ more) = written_of (length part) line ∷ zip_written parts more

-- the lines of a text end with LF or with the text; a CR before the LF counts for the length and is dropped
abbrev pub written_lines : List ℕ → List Written
written_lines text = zip_written (parts 0x0A text) (lines text)

unfoldable pub items_of : List ℕ → List Item
items_of text = items_from None 1 (written_lines text)
