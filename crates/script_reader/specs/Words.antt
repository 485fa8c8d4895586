-- The words of a line, and the words that are names.
use Rattle.std.specs.Prelude.{ℕ, Bool, ◌==◌, ◌||◌, ◌&&◌, not, nat_le, List, length}
use Rattle.std.specs.List.{slice_split, filter, list_all}
use Rattle.std.specs.Char.{is_ascii_alphanumeric}

-- a space or a tab
abbrev pub is_blank : ℕ → Bool
is_blank byte = (byte == 0x20) || (byte == 0x09)

-- what stands between blanks
abbrev pub words_of : List ℕ → List (List ℕ)
words_of line = filter (λ word. not (length word == 0)) (slice_split is_blank line)

-- an ASCII letter, a digit, an underscore, a hyphen or a dot
abbrev pub is_name_byte : ℕ → Bool
is_name_byte byte = is_ascii_alphanumeric byte || (byte == 0x5F) || (byte == 0x2D) || (byte == 0x2E)

-- 1 to 64 of them
abbrev pub is_name : List ℕ → Bool
is_name word = not (length word == 0) && nat_le (length word) 64 && list_all is_name_byte word
