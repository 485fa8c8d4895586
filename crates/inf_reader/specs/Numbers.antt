-- Numbers, dates, versions and scores.
use Rattle.std.specs.Prelude.{ℕ, ◌+◌, ◌-◌, ◌*◌, ◌^◌, List, [], ◌∷◌, Bool, ◌==◌, ◌&&◌, ◌||◌, nat_le, nat_lt, if◌then◌else◌, take, drop, length, codes}
use Rattle.std.specs.Prelude.{Option, Some, None, unwrap_or, is_some}
use Rattle.std.specs.List.{list_any}
use Rattle.std.specs.Str.{bytes_eq}
use Rattle.device_ids.specs.Cuts.{cut_once}

infixl 10 ◌>>=◌
abbrev pub ◌>>=◌ : {A B : Type 0} → Option A → (A → Option B) → Option B
None >>= f = None
(Some x) >>= f = f x

-- what a digit of the base 10 or 16 stands for: `0` to `9`, `A` to `F`, `a` to `f`
abbrev pub digit_of : ℕ → ℕ → Option ℕ
digit_of base b = if nat_le 0x30 b && nat_le b 0x39 then Some (b - 0x30)
    else (if base == 16 && (nat_le 0x41 b && nat_le b 0x46) then Some (b - 0x41 + 10)
    else (if base == 16 && (nat_le 0x61 b && nat_le b 0x66) then Some (b - 0x61 + 10) else None))

-- the number n, gone on with digits
abbrev pub number_from : ℕ → ℕ → List ℕ → Option ℕ
number_from base n [] = Some n
number_from base n (b ∷ bytes) = digit_of base b >>= (λ d. number_from base (n * base + d) bytes)

abbrev pub at_most : ℕ → Option ℕ → Option ℕ
at_most limit None = None
at_most limit (Some n) = if nat_le n limit then Some n else None

-- the number that one or more digits write, where it is at most the limit
unfoldable pub number_of : ℕ → ℕ → List ℕ → Option ℕ
number_of limit base text = if length text == 0 then None else at_most limit (number_from base 0 text)

abbrev pub has_prefix : List ℕ → Bool
has_prefix text = bytes_eq (take 2 text) (codes "0x")

-- `0x` and hexadecimal digits, or decimal digits
unfoldable pub prefixed_number : ℕ → List ℕ → Option ℕ
prefixed_number limit text = if has_prefix text then number_of limit 16 (drop 2 text) else number_of limit 10 text

-- a number below 2 ^ 32; another text counts as 0
unfoldable pub flags_of : List ℕ → ℕ
flags_of text = unwrap_or (prefixed_number 0xFFFF_FFFF text) 0

abbrev pub is_no_digit : ℕ → Bool
is_no_digit b = nat_lt b 0x30 || nat_lt 0x39 b

-- `0x` and hexadecimal digits, decimal digits, or one or two hexadecimal digits with a letter among them: at
-- most 255; these forms are this project's own
unfoldable pub score_of : List ℕ → Option ℕ
score_of text = if has_prefix text then number_of 255 16 (drop 2 text)
    else (if list_any is_no_digit text
    then (if nat_le (length text) 2 then number_of 255 16 text else None)
    else number_of 255 10 text)

-- a number of so many digits at least and at most, from low to high
abbrev pub part_of : ℕ → ℕ → ℕ → ℕ → List ℕ → Option ℕ
part_of shortest longest low high text = if nat_le shortest (length text) && nat_le (length text) longest
    then (number_of high 10 text >>= (λ n. (if nat_le low n then Some n else None))) else None

-- month, day and year between two marks, as year * 10000 + month * 100 + day
unfoldable pub date_by : ℕ → List ℕ → Option ℕ
date_by mark text = cut_once mark text >>= (λ first. cut_once mark first.1 >>= (λ second.
    part_of 1 2 1 12 first.0 >>= (λ month. part_of 1 2 1 31 second.0 >>= (λ day.
    part_of 4 4 0 9999 second.1 >>= (λ year. Some (year * 10000 + month * 100 + day))))))

abbrev pub or_else : {X : Type 0} → Option X → Option X → Option X
or_else None other = other
or_else (Some x) other = Some x

unfoldable pub date_of : List ℕ → Option ℕ
date_of text = or_else (date_by 0x2F text) (date_by 0x2D text)

-- the next number of a version, and what is left; absent ones are 0
abbrev pub next_of : List ℕ → Option (List ℕ × List ℕ) → Option (ℕ × Option (List ℕ))
next_of text None = number_of 65535 10 text >>= (λ n. Some (n, None))
next_of text (Some p) = number_of 65535 10 p.0 >>= (λ n. Some (n, Some p.1))

unfoldable pub next_part : Option (List ℕ) → Option (ℕ × Option (List ℕ))
next_part None = Some (0, None)
next_part (Some text) = next_of text (cut_once 0x2E text)

abbrev pub whole_version : ℕ → ℕ → ℕ → ℕ × Option (List ℕ) → Option ℕ
whole_version a b c d = if is_some d.1 then None else Some (a * 2 ^ 48 + b * 2 ^ 32 + c * 2 ^ 16 + d.0)

-- one to four numbers of 16 bits between points, the first highest
unfoldable pub version_of : List ℕ → Option ℕ
version_of text = next_part (Some text) >>= (λ a. next_part a.1 >>= (λ b. next_part b.1 >>= (λ c. next_part c.1 >>= (λ d. whole_version a.0 b.0 c.0 d))))
