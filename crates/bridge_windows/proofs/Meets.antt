-- What comes through both of two rooms.
use Rattle.std.proofs.Common.{◌≡◌, ℕ, ◌≤◌, ◌-◌, ◌^◌, refl, sym, ap₂, ◌∙◌}
use Rattle.std.specs.Prelude.{min, max}
use Rattle.std.proofs.Math.Nat.{le-max_left, le-max_right, max-le, le-min, min-le_left, min-le_right, le_antisymm, le_trans, le_refl, max_comm, min_comm, max-zero, min-eq_left}
use Rattle.pnp_model.specs.Windows.{Room, all_numbers}
use Rattle.bridge_windows.specs.Rooms.{meet}

-- greatest and least

max_assoc : (a b c : ℕ) → max a (max b c) ≡ max (max a b) c
max_assoc a b c =
    le_antisymm
    (max-le (le_trans (le-max_left a b) (le-max_left (max a b) c)) (max-le (le_trans (le-max_right a b) (le-max_left (max a b) c)) (le-max_right (max a b) c)))
    (max-le (max-le (le-max_left a (max b c)) (le_trans (le-max_left b c) (le-max_right a (max b c)))) (le_trans (le-max_right b c) (le-max_right a (max b c))))

min_assoc : (a b c : ℕ) → min a (min b c) ≡ min (min a b) c
min_assoc a b c =
    le_antisymm
    (le-min (le-min (min-le_left a (min b c)) (le_trans (min-le_right a (min b c)) (min-le_left b c))) (le_trans (min-le_right a (min b c)) (min-le_right b c)))
    (le-min (le_trans (min-le_left (min a b) c) (min-le_left a b)) (le-min (le_trans (min-le_left (min a b) c) (min-le_right a b)) (min-le_right (min a b) c)))

max_same : (a : ℕ) → max a a ≡ a
max_same a = le_antisymm (max-le (le_refl a) (le_refl a)) (le-max_left a a)

min_same : (a : ℕ) → min a a ≡ a
min_same a = le_antisymm (min-le_left a a) (le-min (le_refl a) (le_refl a))

-- rooms

abbrev room_of : ℕ → ℕ → Room
room_of lo hi = record { lo = lo; hi = hi }

pub meet_assoc : (a b c : Room) → meet a (meet b c) ≡ meet (meet a b) c
meet_assoc a b c = ap₂ room_of (max_assoc a.lo b.lo c.lo) (min_assoc a.hi b.hi c.hi)

pub meet_comm : (a b : Room) → meet a b ≡ meet b a
meet_comm a b = ap₂ room_of (max_comm a.lo b.lo) (min_comm a.hi b.hi)

pub meet_same : (a : Room) → meet a a ≡ a
meet_same a = ap₂ room_of (max_same a.lo) (min_same a.hi)

-- a room of numbers of 64 bits
abbrev pub IsNarrow : Room → Type 0
IsNarrow r = r.hi ≤ 2 ^ 64 - 1

pub meet_all : (a : Room) → IsNarrow a → meet a all_numbers ≡ a
meet_all a h = ap₂ room_of (max-zero a.lo) (min-eq_left h)

pub meet_narrow : (a b : Room) → IsNarrow b → IsNarrow (meet a b)
meet_narrow a b h = le_trans (min-le_right a.hi b.hi) h

-- what narrows twice narrows once
pub meet_twice : (a b : Room) → meet a (meet a b) ≡ meet a b
meet_twice a b = meet_assoc a a b ∙ ap₂ meet (meet_same a) refl

-- the first of three is taken out
pub meet_swap : (a b c : Room) → meet a (meet b c) ≡ meet b (meet a c)
meet_swap a b c = meet_assoc a b c ∙ (ap₂ meet (meet_comm a b) refl ∙ sym (meet_assoc b a c))
