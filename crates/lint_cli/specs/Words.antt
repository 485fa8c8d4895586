-- Which words the program takes.
use Rattle.std.specs.Prelude.{ℕ, Bool, true, false, ◌&&◌, ◌==◌, not, nat_lt, nat_le, List, [], ◌∷◌, length, drop, map, codes, String, string_bytes, if◌then◌else◌}
use Rattle.std.specs.List.{list_all}
use Rattle.std.specs.Str.{bytes_eq}
use Rattle.std.specs.Global.{Global}
use Rattle.pnp_labels.specs.Texts.{Text}
use Rattle.lint_cli.specs.declared.words.Options.{Options}

-- the bytes of each word
abbrev pub texts : List (String Global) → List Text
texts words = map (λ word. string_bytes word) words

abbrev pub no_options : Options
no_options = record { strict = false; all = false; bare = false }

-- `--strict`: also a warning makes the answer `Found`; `--all`: also of lines that match no device; `--inf`: there is no script
abbrev pub is_strict : Text → Bool
is_strict word = bytes_eq word (codes "--strict")

abbrev pub is_all : Text → Bool
is_all word = bytes_eq word (codes "--all")

abbrev pub is_bare : Text → Bool
is_bare word = bytes_eq word (codes "--inf")

-- the options stand before the names of the files
abbrev pub options_from : Options → List Text → Options
options_from o [] = o
options_from o (word ∷ words) = if is_strict word then options_from (record { strict = true; all = o.all; bare = o.bare }) words
    else (if is_all word then options_from (record { strict = o.strict; all = true; bare = o.bare }) words
    else (if is_bare word then options_from (record { strict = o.strict; all = o.all; bare = true }) words else o))

abbrev pub names_from : List Text → List Text
names_from [] = []
names_from (word ∷ words) = if is_strict word then names_from words
    else (if is_all word then names_from words
    else (if is_bare word then names_from words else word ∷ words))

-- behind the program's name
abbrev pub options_of : List Text → Options
options_of words = options_from no_options (drop 1 words)

-- the files that words name: the script, unless there is none, and then the INFs
abbrev pub named : List Text → List Text
named words = names_from (drop 1 words)

-- a dash begins an option
abbrev pub is_option : Text → Bool
is_option [] = false
is_option (b ∷ word) = b == 0x2D

-- a script and up to 64 INFs, or 1 to 64 INFs
abbrev pub most_names : Bool → ℕ
most_names bare = if bare then 64 else 65

abbrev pub are_words : List Text → Bool
are_words words = nat_lt 0 (length (named words)) && nat_le (length (named words)) (most_names (options_of words).bare) && list_all (λ word. not (is_option word)) (named words)
