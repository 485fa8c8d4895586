-- What a line of a family is.
use Rattle.std.specs.Prelude.{ℕ, nat_le, List, [], ◌∷◌, length, codes, Option, Some, None, if◌then◌else◌}
use Rattle.std.specs.Str.Lines.{strip_carriage_return}
use Rattle.script_reader.specs.Words.{words_of}
use Rattle.script_reader.specs.declared.line.Line.{Line}
use Rattle.script_reader.specs.declared.line.ScriptEnd.{ScriptEnd}
use Rattle.script_reader.specs.declared.line.ScriptEnd.TheVariants as script_ends
use Rattle.script_reader.specs.Tables.{among}
use Rattle.script_reader.specs.Script.{Meaning, nothing, means, bad, whole_line}
use Rattle.script_family.specs.declared.sort.BlockKind.TheVariants as kinds
use Rattle.script_family.specs.declared.sort.LineSort.{LineSort}
use Rattle.script_family.specs.declared.sort.LineSort.TheVariants as sorts

-- the words that are no lines of scripts
abbrev pub keyword_of : List ℕ → Option LineSort
keyword_of word = among (
    (codes "either", sorts.Opens kinds.Either) ∷
    (codes "together", sorts.Opens kinds.Together) ∷
    (codes "or", sorts.Parts kinds.Either) ∷
    (codes "and", sorts.Parts kinds.Together) ∷
    (codes "end", sorts.Closes) ∷ []) word

-- what a line is that is no keyword: as a reader of scripts has it
abbrev pub by_meaning : Meaning → LineSort
by_meaning nothing = sorts.Nothing
by_meaning (means event) = sorts.Said
by_meaning bad = sorts.Bad

-- what the events of a script of one line, and its end, tell of the line
abbrev pub tells : List Line → ScriptEnd → LineSort
tells lines (script_ends.Bad number) = sorts.Bad
tells [] script_ends.End = sorts.Nothing
tells (line ∷ lines) script_ends.End = sorts.Said

abbrev pub or_else : LineSort → Option LineSort → LineSort
or_else sort None = sort
or_else sort (Some keyword) = keyword

-- a keyword stands alone on its line
abbrev pub by_words : List (List ℕ) → LineSort → LineSort
by_words [] sort = sort
by_words (word ∷ []) sort = or_else sort (keyword_of word)
by_words (word ∷ second ∷ words) sort = sort

-- A line before its line feed. As in a script, it has at most 4,096 bytes, and one carriage return at its end is dropped.
abbrev pub sort_of : List ℕ → LineSort
sort_of line = if nat_le (length line) 4096 then by_words (words_of (strip_carriage_return line)) (by_meaning (whole_line line)) else sorts.Bad
