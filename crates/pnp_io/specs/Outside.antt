-- What reads and writes say of the outside.
use Rattle.std.specs.Prelude.{◌≡◌, ◌⊎◌, ◌≤◌, ◌<◌, ◌+◌, ◌^◌, ◌-◌, ℕ, min, List, ◌++◌, length, take, drop, Option, Some, option_map, IfSome}

-- a count of 64 bits raised by one, which stays where it stands at its greatest number
abbrev pub raised : ℕ → ℕ
raised count = min (count + 1) (2 ^ 64 - 1)

-- A count rose in a call: it is greater afterwards, or stands at its greatest number.
abbrev pub Rose : ℕ → ℕ → Type 0
Rose old new = (old < new) ⊎ (new ≡ 2 ^ 64 - 1)

-- A read of n bytes from a place of a file on: the file is there, the buffer begins with its bytes from there on and
-- is else as before, and no byte came only at the end of the file or for an empty buffer.
pub record Reads (file : Option (List ℕ)) (at n : ℕ) (old new : List ℕ) : Type 0 where
  pub bytes : List ℕ
  pub there : file ≡ Some bytes
  pub part : new ≡ take n (drop at bytes) ++ drop n old
  pub enough : n ≤ length bytes - at
  pub end : n ≡ 0 → 0 < length old → length bytes ≤ at

-- the same of a name, where the contents are told
abbrev pub ReadsTold : Option (List ℕ → Option (List ℕ)) → List ℕ → ℕ → ℕ → List ℕ → List ℕ → Type 0
ReadsTold contents name at n old new = IfSome contents (λ told. Reads (told name) at n old new)

-- where the contents are told, the file is there and holds these bytes
abbrev pub Holds : Option (List ℕ → Option (List ℕ)) → List ℕ → List ℕ → Type 0
Holds contents name bytes = IfSome contents (λ told. told name ≡ Some bytes)

-- where the contents are told, the file is there and holds more than so many bytes
abbrev pub HoldsMore : Option (List ℕ → Option (List ℕ)) → List ℕ → ℕ → Type 0
HoldsMore contents name limit = IfSome contents (λ told. (bytes : List ℕ) × (told name ≡ Some bytes) × (limit < length bytes))

-- where the bytes that a sink took are told, they are as before with these at their end
abbrev pub Appends : Option (List ℕ) → Option (List ℕ) → List ℕ → Type 0
Appends old new bytes = new ≡ option_map (λ taken. taken ++ bytes) old

-- the same, with some front of these
abbrev pub AppendsFront : Option (List ℕ) → Option (List ℕ) → List ℕ → Type 0
AppendsFront old new bytes = (n : ℕ) × (n ≤ length bytes) × Appends old new (take n bytes)
