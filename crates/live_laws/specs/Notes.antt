-- Which lines of an output are notes, and which of these are asks.
use Rattle.std.specs.Prelude.{◌==◌, Bool, true, false, ◌&&◌, not, List, [], ◌∷◌, codes}
use Rattle.std.specs.List.{filter}
use Rattle.pnp_labels.specs.Texts.{Text}

abbrev pub begins : Text → Text → Bool
begins [] text = true
begins (byte ∷ front) [] = false
begins (byte ∷ front) (other ∷ text) = other == byte && begins front text

abbrev pub is_note : Text → Bool
is_note line = begins (codes "# ") line

abbrev pub is_ask : Text → Bool
is_ask line = begins (codes "# ask ") line

-- without the lines that begin with `# `
abbrev pub without_notes : List Text → List Text
without_notes lines = filter (λ line. not (is_note line)) lines
