-- The bytes that several texts keep.
use Rattle.std.specs.Prelude.{ℕ, ◌≤◌, ◌≡◌, ◌-◌, ◌++◌, List, length, take, drop, replicate}
use Rattle.device_ids.specs.declared.text.Kept.{Kept}
use Rattle.device_ids.specs.declared.text.Bytes.{Bytes}
use Rattle.device_ids.specs.declared.text.Bytes.TheVariants as bytes
use Rattle.device_ids.specs.Folding.{folded}

-- all that is kept of a text, whose bytes stand at its front
abbrev pub front_of : Bytes → List ℕ
front_of (bytes.Few text folded) = text
front_of (bytes.Many both) = both.items

-- the bytes of the texts
abbrev pub text_of : Kept → List ℕ
text_of kept = take kept.len (front_of kept.bytes)

-- how many bytes there is room for at the front
abbrev pub room_of : Bytes → ℕ
room_of (bytes.Few text folded) = 32
room_of (bytes.Many both) = length both.items

abbrev pub HasText : Kept → Type 0
HasText kept = kept.len ≤ room_of kept.bytes

-- what is kept beside so many bytes
abbrev pub beside_of : ℕ → Bytes → List ℕ
beside_of len (bytes.Few text folded) = take len folded
beside_of len (bytes.Many both) = drop len both.items

-- the bytes of the texts, and the same with ASCII letters folded
pub record HasFolded (kept : Kept) : Type 0 where
  pub inside : HasText kept
  pub folded : beside_of kept.len kept.bytes ≡ folded (text_of kept)

-- bytes, and backslashes after them, 32 where they are no more
abbrev pub padded : List ℕ → List ℕ
padded bytes = bytes ++ replicate (32 - length bytes) 0x5C
