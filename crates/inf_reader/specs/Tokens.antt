-- Tokens, and what stands for them (the driver kit, "INF Strings Section").
use Rattle.std.specs.Prelude.{ℕ, List, [], ◌∷◌, ◌++◌}
use Rattle.std.specs.Prelude.{Option, Some, None, unwrap_or}
use Rattle.device_ids.specs.Cuts.{parts}
use Rattle.device_ids.specs.Folding.{folded}

-- what the folded names of tokens stand for
abbrev pub Strings : Type 0
Strings = List ℕ → Option (List ℕ)

-- `%name%`: two marks with nothing between stand for one, and an unknown name stays as written
abbrev pub token : Strings → List ℕ → List ℕ
token strings [] = 0x25 ∷ []
token strings (b ∷ name) = unwrap_or (strings (folded (b ∷ name))) (0x25 ∷ (b ∷ name) ++ 0x25 ∷ [])

-- the parts of a text between its marks are by turns plain and names, here from a name on; a last single mark stays
abbrev pub from_name : Strings → List (List ℕ) → List ℕ
from_name strings [] = []
from_name strings (name ∷ []) = 0x25 ∷ name
from_name strings (name ∷ plain ∷ more) = token strings name ++ (plain ++ from_name strings more)

abbrev pub from_plain : Strings → List (List ℕ) → List ℕ
from_plain strings [] = []
from_plain strings (plain ∷ more) = plain ++ from_name strings more

-- a text with its tokens replaced
unfoldable pub replaced : Strings → List ℕ → List ℕ
replaced strings text = from_plain strings (parts 0x25 text)

-- a text with its tokens replaced, or as it is written
abbrev pub text_with : Option Strings → List ℕ → List ℕ
text_with None text = text
text_with (Some strings) text = replaced strings text
