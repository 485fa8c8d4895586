-- Patterns of words, and the lines that fit them.
use Rattle.std.specs.Prelude.{ℕ, ◌≤◌, ◌<◌, Bool, true, false, ◌==◌, ◌||◌, ◌&&◌, not, List, [], ◌∷◌, length}
use Rattle.std.specs.List.{slice_split, filter}
use Rattle.std.specs.Str.{bytes_eq}

-- a space or a tab
abbrev pub is_blank : ℕ → Bool
is_blank byte = (byte == 0x20) || (byte == 0x09)

-- what stands between blanks
abbrev pub words_of : List ℕ → List (List ℕ)
words_of line = filter (λ word. not (length word == 0)) (slice_split is_blank line)

-- a star is any one word
abbrev pub word_fits : List ℕ → List ℕ → Bool
word_fits pattern word = bytes_eq pattern (0x2A ∷ []) || bytes_eq pattern word

-- a pattern has 1 to 16 words
abbrev pub IsPattern : List (List ℕ) → Type 0
IsPattern words = (0 < length words) × (length words ≤ 16)

-- the first of these words are those of a pattern, one by one
abbrev pub begins_with : List (List ℕ) → List (List ℕ) → Bool
begins_with [] words = true
begins_with (p ∷ pattern) [] = false
begins_with (p ∷ pattern) (word ∷ words) = word_fits p word && begins_with pattern words

-- a line fits a pattern where its first words are those of the pattern
abbrev pub fits : List (List ℕ) → List ℕ → Bool
fits pattern line = begins_with pattern (words_of line)
