-- A line's characters, with what is quoted told apart (the driver kit, "General Syntax Rules for INF Files").
use Rattle.std.specs.Prelude.{ℕ, ◌-◌, List, [], ◌∷◌, ◌++◌, Bool, false, ◌==◌, ◌||◌, if◌then◌else◌, take, drop, length}
use Rattle.std.specs.List.{prefix_len, suffix_len, flat_map}
use Rattle.inf_reader.specs.declared.symbols.Symbol.{Symbol}
use Rattle.inf_reader.specs.declared.symbols.Symbol.TheVariants.{Plain, Quoted, Mark}
use Rattle.inf_reader.specs.declared.symbols.Place.{Place}
use Rattle.inf_reader.specs.declared.symbols.Place.TheVariants.{Outside, Inside, Doubled, Comment}

abbrev pub begins_with : ℕ → List ℕ → Bool
begins_with b [] = false
begins_with b (c ∷ bytes) = c == b

-- where a line stands behind the byte b, if `quote` says that a quote mark follows
abbrev pub next_place : Place → ℕ → Bool → Place
next_place Outside b quote = if b == 34 then Inside else (if b == 59 then Comment else Outside)
next_place Inside b quote = if b == 34 then (if quote then Doubled else Outside) else Inside
next_place Doubled b quote = Inside
next_place Comment b quote = Comment

-- what the byte b stands for: of two quote marks inside quotes the first is a quoted one, and the second is skipped
abbrev pub shown : Place → ℕ → Bool → List Symbol
shown Outside b quote = if b == 34 then Mark ∷ [] else (if b == 59 then [] else Plain b ∷ [])
shown Inside b quote = if b == 34 then (if quote then Quoted 34 ∷ [] else Mark ∷ []) else Quoted b ∷ []
shown Doubled b quote = []
shown Comment b quote = []

abbrev pub symbols_from : Place → List ℕ → List Symbol
symbols_from place [] = []
symbols_from place (b ∷ bytes) = shown place b (begins_with 34 bytes) ++ symbols_from (next_place place b (begins_with 34 bytes)) bytes

-- the symbols of a line, without its comment
abbrev pub symbols_of : List ℕ → List Symbol
symbols_of line = symbols_from Outside line

-- the character b outside quotes
abbrev pub is_plain : ℕ → Symbol → Bool
is_plain b (Plain c) = c == b
is_plain b (Quoted c) = false
is_plain b Mark = false

-- a space or a tab
abbrev pub is_blank_byte : ℕ → Bool
is_blank_byte b = b == 32 || b == 9

abbrev pub is_blank : Symbol → Bool
is_blank (Plain b) = is_blank_byte b
is_blank (Quoted b) = false
is_blank Mark = false

abbrev pub without_front : {X : Type 0} → (X → Bool) → List X → List X
without_front p xs = drop (prefix_len p xs) xs

abbrev pub without_end : {X : Type 0} → (X → Bool) → List X → List X
without_end p xs = take (length xs - suffix_len p xs) xs

-- without the blanks at both ends
unfoldable pub trimmed : List Symbol → List Symbol
trimmed symbols = without_end is_blank (without_front is_blank symbols)

unfoldable pub trimmed_bytes : List ℕ → List ℕ
trimmed_bytes bytes = without_end is_blank_byte (without_front is_blank_byte bytes)

-- a symbol without quote marks
abbrev pub bare_byte : Symbol → List ℕ
bare_byte (Plain b) = b ∷ []
bare_byte (Quoted b) = b ∷ []
bare_byte Mark = []

-- a key or a value: it loses the blanks at its ends, then its quotes
unfoldable pub bare : List Symbol → List ℕ
bare symbols = flat_map bare_byte (trimmed symbols)

-- a symbol as it was written
abbrev pub written : Symbol → ℕ
written (Plain b) = b
written (Quoted b) = b
written Mark = 34
