-- Texts in which ASCII letters are folded, and when two texts are the same.
use Rattle.std.specs.Prelude.{ℕ, Bool, List}
use Rattle.std.specs.Str.{bytes_eq, str_to_ascii_lowercase}

-- the text with each upper-case ASCII letter as its lower-case letter
abbrev pub folded : List ℕ → List ℕ
folded = str_to_ascii_lowercase

-- both agree after ASCII letters are folded
abbrev pub same : List ℕ → List ℕ → Bool
same a b = bytes_eq (folded a) (folded b)
