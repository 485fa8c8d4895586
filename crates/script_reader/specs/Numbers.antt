-- Numbers, ranges, and the ranges of a kind of resource.
use Rattle.std.specs.Prelude.{ℕ, ◌+◌, ◌-◌, ◌*◌, ◌^◌, Bool, true, false, ◌==◌, ◌&&◌, nat_le, nat_lt, List, [], ◌∷◌, length, Option, Some, None, if◌then◌else◌}
use Rattle.device_ids.specs.Cuts.{cut_once}
use Rattle.resource_reqs.specs.declared.kind.Kind.{Kind}
use Rattle.resource_reqs.specs.declared.kind.Kind.TheVariants.{Bus}

infixl 10 ◌>>=◌
abbrev pub ◌>>=◌ : {A B : Type 0} → Option A → (A → Option B) → Option B
None >>= f = None
(Some x) >>= f = f x

abbrev pub only_if : {A : Type 0} → Bool → A → Option A
only_if true x = Some x
only_if false x = None

-- 0 to 9; a to f and A to F are 10 to 15
abbrev pub digit_value : ℕ → Option ℕ
digit_value byte =
    if nat_le 48 byte && nat_le byte 57 then Some (byte - 48)
    else if nat_le 97 byte && nat_le byte 102 then Some (byte - 97 + 10)
    else if nat_le 65 byte && nat_le byte 70 then Some (byte - 65 + 10)
    else None

-- a digit of the base
abbrev pub digit_of : ℕ → ℕ → Option ℕ
digit_of base byte = do
  value ← digit_value byte
  only_if (nat_lt value base) value

-- what the digits are worth, each by its place
abbrev pub worth : ℕ → List ℕ → Option ℕ
worth base [] = Some 0
worth base (byte ∷ bytes) = do
  digit ← digit_of base byte
  rest ← worth base bytes
  Some (digit * base ^ length bytes + rest)

-- one digit or more, worth less than 2 ^ 64
abbrev pub numeral : ℕ → List ℕ → Option ℕ
numeral base [] = None
numeral base (byte ∷ bytes) = do
  value ← worth base (byte ∷ bytes)
  only_if (nat_lt value (2 ^ 64)) value

-- hexadecimal digits after 0x, or decimal digits
abbrev pub is_hex : List ℕ → Bool
is_hex (a ∷ b ∷ digits) = (a == 0x30) && (b == 0x78)
is_hex _ = false

abbrev pub number_by : Bool → List ℕ → Option ℕ
number_by true (a ∷ b ∷ digits) = numeral 16 digits
number_by _ text = numeral 10 text

abbrev pub number_of : List ℕ → Option ℕ
number_of text = number_by (is_hex text) text

-- one number for both ends
abbrev pub alone : List ℕ → Option (ℕ × ℕ)
alone text = do
  number ← number_of text
  Some (number, number)

abbrev pub ends : List ℕ × List ℕ → Option (ℕ × ℕ)
ends texts = do
  lo ← number_of texts.0
  hi ← number_of texts.1
  only_if (nat_le lo hi) (lo, hi)

abbrev pub range_by : List ℕ → Option (List ℕ × List ℕ) → Option (ℕ × ℕ)
range_by text None = alone text
range_by text (Some texts) = ends texts

-- LO-HI, or one number
abbrev pub range_of : List ℕ → Option (ℕ × ℕ)
range_of text = range_by text (cut_once 0x2D text)

-- a bus has one of 256 numbers
abbrev pub has_number : Kind → ℕ → Bool
has_number Bus number = nat_le number 255
has_number _ number = true

-- RANGE, with numbers that the kind has
abbrev pub range_in : Kind → List ℕ → Option (ℕ × ℕ)
range_in kind text = do
  range ← range_of text
  only_if (has_number kind range.1) range

-- how often a rule is used: 1 to 1,000,000 times
abbrev pub uses_of : List ℕ → Option ℕ
uses_of text = do
  uses ← number_of text
  only_if (nat_le 1 uses && nat_le uses 1000000) uses
