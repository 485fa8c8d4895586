-- Each line of a generated script is good. This is computed, for each of the 400 devices.
use Rattle.std.proofs.Common.{◌≡◌, ◌≤◌, ◌==◌, ◌||◌, ◌&&◌, ◌+◌, ◌-◌, ℕ, zero, suc, Bool, true, false, not, List, [], ◌∷◌, ◌++◌, length, refl, subst, arith}
use Rattle.std.specs.Prelude.{codes, nat_le}
use Rattle.std.specs.Fmt.{decimal, digits}
use Rattle.pnp_laws.proofs.Truths.{and_both}
use Rattle.script_reader.specs.Script.{Meaning, nothing, means, bad, whole_line}
use Rattle.pnp_cli.specs.Generated.{need_of}

abbrev pub is_event : Meaning → Bool
is_event nothing = false
is_event (means event) = true
is_event bad = false

abbrev pub has_feed : List ℕ → Bool
has_feed [] = false
has_feed (byte ∷ bytes) = byte == 10 || has_feed bytes

-- an event of at most 127 bytes, without LF
abbrev pub is_good : List ℕ → Bool
is_good line = is_event (whole_line line) && (not (has_feed line) && nat_le (length line) 127)

-- the line of the k-th device, without its LF
abbrev pub device_text : ℕ → List ℕ
device_text k = codes "plug GEN\\BUS\\0 GEN\\DEV " ++ decimal k ++ codes " " ++ need_of k

all_good : ℕ → Bool
all_good zero = true
all_good (suc k) = is_good (device_text (suc k)) && all_good k

-- the lines of all devices are good
four_hundred : all_good 400 ≡ true
unfolding all_good digits
four_hundred = refl

first_sum : (k : ℕ) → zero + suc k ≡ suc k
first_sum k = omega arith

next_sum : (j k : ℕ) → suc j + suc k ≡ suc (j + suc k)
next_sum j k = omega arith

good_below : (j k : ℕ) → all_good (j + suc k) ≡ true → is_good (device_text (suc k)) ≡ true
unfolding all_good
good_below zero k all = (and_both (is_good (device_text (suc k))) (all_good k) (subst (λ (x : ℕ). all_good x ≡ true) (first_sum k) all)).0
good_below (suc j) k all =
    good_below j k (and_both (is_good (device_text (suc (j + suc k)))) (all_good (j + suc k)) (subst (λ (x : ℕ). all_good x ≡ true) (next_sum j k) all)).1

rest_sum : (k : ℕ) → suc k ≤ 400 → 400 ≡ (400 - suc k) + suc k
rest_sum k low = omega (arith, low)

pub device_good : (k : ℕ) → suc k ≤ 400 → is_good (device_text (suc k)) ≡ true
device_good k low = good_below (400 - suc k) k (subst (λ (x : ℕ). all_good x ≡ true) (rest_sum k low) four_hundred)
