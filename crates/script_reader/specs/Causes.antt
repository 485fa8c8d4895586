-- Why a text is no number, no range, no want, no identifier, or no bytes of requirements.
use Rattle.std.specs.Prelude.{ℕ, Bool, ◌==◌, ◌&&◌, ◌||◌, not, List, length, drop, Option, Some, None, if◌then◌else◌}
use Rattle.std.specs.Option.{is_some}
use Rattle.std.specs.List.{list_all}
use Rattle.device_ids.specs.Cuts.{cut_once}
use Rattle.req_bytes.specs.declared.error.BytesError.{BytesError}
use Rattle.req_bytes.specs.declared.error.BytesError.TheVariants as bytes_errors
use Rattle.script_reader.specs.Numbers.{digit_of, is_hex, number_of, range_of}
use Rattle.script_reader.specs.declared.cause.Cause.{Cause}

-- one digit of the base or more, and nothing else
abbrev pub are_digits : ℕ → List ℕ → Bool
are_digits base text = not (length text == 0) && list_all (λ byte. is_some (digit_of base byte)) text

-- digits, however many
abbrev pub is_spelled : List ℕ → Bool
is_spelled text = if is_hex text then are_digits 16 (drop 2 text) else are_digits 10 text

-- a slash or an at sign, which begin a length and an alignment
abbrev pub has_size : List ℕ → Bool
has_size text = is_some (cut_once 0x2F text) || is_some (cut_once 0x40 text)

-- why this is no number
abbrev pub number_cause : List ℕ → Cause
number_cause text =
    if is_spelled text then Cause.WideNumber
    else if has_size text then Cause.NoSizeHere
    else Cause.NotNumber

-- why these are no range
abbrev pub ends_cause : List ℕ × List ℕ → Cause
ends_cause texts =
    if not (is_some (number_of texts.0)) then number_cause texts.0
    else if not (is_some (number_of texts.1)) then number_cause texts.1
    else Cause.TurnedRange

abbrev pub cut_cause : List ℕ → Option (List ℕ × List ℕ) → Cause
cut_cause text None = number_cause text
cut_cause text (Some texts) = ends_cause texts

-- why this is no range of numbers that the kind has
abbrev pub range_cause : List ℕ → Cause
range_cause text = if is_some (range_of text) then Cause.WideBus else cut_cause text (cut_once 0x2D text)

-- why a tail is no number
abbrev pub tail_cause : Option (List ℕ) → Cause
tail_cause None = Cause.NotNumber
tail_cause (Some text) = number_cause text

-- why such numbers make no want
abbrev pub size_cause : ℕ → ℕ → Cause
size_cause len align = if len == 0 then Cause.ZeroLength else if align == 0 then Cause.ZeroAlignment else Cause.LongLength

abbrev pub bytes_cause : BytesError → Cause
bytes_cause bytes_errors.Size = Cause.BytesSize
bytes_cause (bytes_errors.BadType list item) = Cause.BytesType
bytes_cause (bytes_errors.AltFirst list item) = Cause.BytesAlternative
bytes_cause (bytes_errors.BadWant list item) = Cause.BytesWant
bytes_cause (bytes_errors.Full list) = Cause.BytesFull
bytes_cause (bytes_errors.EmptyList list) = Cause.BytesEmpty
bytes_cause bytes_errors.WantOfMemory = Cause.BytesSize
