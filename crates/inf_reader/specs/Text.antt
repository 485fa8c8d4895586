-- The text of a file's bytes, as UTF-8. Which encodings are read is this project's own.
use Rattle.std.specs.Prelude.{ℕ, ◌+◌, ◌*◌, List, [], ◌∷◌, Bool, take, drop, if◌then◌else◌}
use Rattle.std.specs.Str.{bytes_eq, is_utf8, encode_utf8_all}
use Rattle.std.specs.Char.Utf16.{utf16_lossy_chars}

-- the first bytes are these two or three
abbrev pub has_mark : ℕ → List ℕ → List ℕ → Bool
has_mark len mark bytes = bytes_eq (take len bytes) mark

-- the units of UTF-16, the lower byte first; an odd last byte is dropped
abbrev pub units : List ℕ → List ℕ
units [] = []
units (low ∷ []) = []
units (low ∷ high ∷ rest) = (low + 256 * high) ∷ units rest

-- UTF-8 stays; other bytes are characters of Latin-1
unfoldable pub from_utf8_or_latin1 : List ℕ → List ℕ
from_utf8_or_latin1 bytes = if is_utf8 bytes then bytes else encode_utf8_all bytes

-- behind FF FE stands UTF-16, with U+FFFD for a surrogate without a partner; else a mark EF BB BF is dropped
unfoldable pub text_of : List ℕ → List ℕ
text_of bytes = if has_mark 2 (0xFF ∷ 0xFE ∷ []) bytes then encode_utf8_all (utf16_lossy_chars (units (drop 2 bytes)))
    else from_utf8_or_latin1 (if has_mark 3 (0xEF ∷ 0xBB ∷ 0xBF ∷ []) bytes then drop 3 bytes else bytes)
