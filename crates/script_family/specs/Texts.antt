-- The text of a family, and the text of a script of it.
use Rattle.std.specs.Prelude.{ℕ, ◌==◌, Bool, true, List, [], ◌∷◌, ◌++◌, drop, get_or, if◌then◌else◌}
use Rattle.std.specs.List.{flat_map}
use Rattle.device_ids.specs.Cuts.{parts}
use Rattle.script_family.specs.Families.{Script}

-- whether the last line has its line feed; where there is no line, none is missing
abbrev pub is_ended : List ℕ → Bool
is_ended [] = true
is_ended (byte ∷ []) = byte == 0x0A
is_ended (byte ∷ next ∷ bytes) = is_ended (next ∷ bytes)

-- a family is read as if its last line had one
abbrev pub ended : List ℕ → List ℕ
ended text = if is_ended text then text else text ++ 0x0A ∷ []

-- the line that begins there, without its line feed
abbrev pub line_at : List ℕ → ℕ → List ℕ
line_at text at = get_or (parts 0x0A (drop at text)) 0 []

-- the lines of a script, with a line feed each
abbrev pub text_of : List ℕ → Script → List ℕ
text_of text script = flat_map (λ at. line_at text at ++ 0x0A ∷ []) script
