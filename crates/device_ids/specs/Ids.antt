-- Legal identifiers and paths.
use Rattle.std.specs.Prelude.{◌≡◌, ℕ, ◌+◌, Bool, true, false, ◌==◌, ◌&&◌, not, nat_lt, nat_le, List, [], ◌∷◌, ◌++◌, length, take, drop, Option}
use Rattle.std.specs.List.{list_all, position}
use Rattle.device_ids.specs.Cuts.{parts}

-- above 0x20, at most 0x7F, and no comma
abbrev pub is_id_byte : ℕ → Bool
is_id_byte byte = nat_lt 0x20 byte && nat_le byte 0x7F && not (byte == 0x2C)

-- a legal identifier: 1 to 199 bytes, each one of an identifier
abbrev pub is_id : List ℕ → Bool
is_id bytes = nat_lt 0 (length bytes) && nat_le (length bytes) 199 && list_all is_id_byte bytes

-- the place of the first byte that is none of an identifier
abbrev pub first_bad : List ℕ → Option ℕ
first_bad bytes = position (λ byte. not (is_id_byte byte)) bytes

-- a device ID, a backslash, an instance ID
abbrev pub joined : List ℕ → List ℕ → List ℕ
joined device instance = device ++ 0x5C ∷ instance

abbrev pub is_some_bytes : List ℕ → Bool
is_some_bytes bytes = nat_lt 0 (length bytes)

-- three parts, none of them empty
abbrev pub are_parts : List (List ℕ) → Bool
are_parts (bus ∷ name ∷ instance ∷ []) = is_some_bytes bus && is_some_bytes name && is_some_bytes instance
are_parts _ = false

-- the two sides of the last of two backslashes are legal identifiers
abbrev pub are_ids : List (List ℕ) → Bool
are_ids (bus ∷ name ∷ instance ∷ []) = is_id (joined bus name) && is_id instance
are_ids _ = false

abbrev pub has_parts : List ℕ → Bool
has_parts bytes = are_parts (parts 0x5C bytes)

abbrev pub has_ids : List ℕ → Bool
has_ids bytes = are_ids (parts 0x5C bytes)

abbrev pub is_path : List ℕ → Bool
is_path bytes = has_parts bytes && has_ids bytes

-- the bytes are three parts, and the last of the two backslashes stands here
pub record Sides (bytes : List ℕ) (at : ℕ) : Type 0 where
  pub has : has_parts bytes ≡ true
  pub inside : at + 1 + length (drop (at + 1) bytes) ≡ length bytes
  pub sides : has_ids bytes ≡ (is_id (take at bytes) && is_id (drop (at + 1) bytes))
