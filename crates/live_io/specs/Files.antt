-- What of a file of answers is still to come.
use Rattle.std.specs.Prelude.{◌≡◌, ◌<◌, ℕ, Bool, true, false, List, ◌++◌, length, drop, Option, Some, None, option_map}
use Rattle.live_io.specs.Turns.{Text}

-- the bytes of a name, where the contents are told
abbrev pub held : Option (Text → Option Text) → Text → Option Text
held None name = None
held (Some told) name = told name

-- what was read and is not yet given, and then the bytes of the file from a place on; where its contents are told
abbrev pub come : Option (Text → Option Text) → Text → Text → ℕ → Option Text
come None name rest at = None
come (Some told) name rest at = option_map (λ bytes. rest ++ drop at bytes) (told name)

-- this is all that is still to come, where that is told
abbrev pub IsAll : Option Text → Text → Type 0
IsAll None rest = Unit {0}
IsAll (Some text) rest = text ≡ rest

-- more was read; or all that is still to come was read before
abbrev pub HasMore : Bool → Text → Text → Option Text → Type 0
HasMore true old new all = length old < length new
HasMore false old new all = (new ≡ old) × IsAll all old
