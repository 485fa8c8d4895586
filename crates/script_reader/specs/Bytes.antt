-- Bytes as hexadecimal digits.
use Rattle.std.specs.Prelude.{ℕ, ◌+◌, ◌*◌, List, [], ◌∷◌, Option, Some, None}
use Rattle.script_reader.specs.Numbers.{◌>>=◌, digit_of}

-- the number below 256 that two hexadecimal digits spell
abbrev pub hex_byte : ℕ → ℕ → Option ℕ
hex_byte high low = do
  high ← digit_of 16 high
  low ← digit_of 16 low
  Some (16 * high + low)

abbrev pub hex_pair : List ℕ → Option ℕ
hex_pair (high ∷ low ∷ []) = hex_byte high low
hex_pair _ = None

-- the bytes of hexadecimal digits, two for each
abbrev pub hex_bytes : List ℕ → Option (List ℕ)
hex_bytes [] = Some []
hex_bytes (high ∷ []) = None
hex_bytes (high ∷ low ∷ text) = do
  byte ← hex_byte high low
  bytes ← hex_bytes text
  Some (byte ∷ bytes)
