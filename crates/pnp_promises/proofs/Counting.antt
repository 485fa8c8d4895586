-- How many handles are open, and what a test of a number says.
use Rattle.std.proofs.Common.{ℕ, ◌+◌, ◌≤◌, ◌≡◌, ◌≢◌, ◌==◌, Bool, true, false, List, [], ◌∷◌, Some, refl, arith, nat_lt}
use Rattle.std.specs.List.{find}
use Rattle.std.proofs.lemmas.Bool.Decides.{nat_tests}
use Rattle.pnp_model.specs.Handles.{closed_with, comes_after, is_handle_of, is_open, one_less, one_more, opened, opened_with}
use Rattle.pnp_model.specs.Keyed.{changed_first, put_before, without_first}
use Rattle.pnp_model.specs.Records.{Handle}
use Rattle.pnp_laws.specs.Waiting.{HandlesInOrder}
use Rattle.pnp_promises.specs.Accepted.{OneMoreOpen, open_at}

pub is_zero : (k : ℕ) → (k == 0) ≡ true → k ≡ 0
is_zero k h = grind (arith, nat_tests)

pub not_zero : (k : ℕ) → (k == 0) ≡ false → k ≡ 0 → ⊥
not_zero k h e = grind (arith, nat_tests)

more_same : (k : ℕ) (hs : List Handle) → is_open hs k ≡ true → open_at (changed_first (is_handle_of k) one_more hs) k ≡ open_at hs k + 1
more_same k [] h = absurd (cc)
more_same k (x ∷ hs) h = grind (arith, nat_tests, more_same k hs)

more_other : (k j : ℕ) (hs : List Handle) → k ≢ j → open_at (changed_first (is_handle_of k) one_more hs) j ≡ open_at hs j
more_other k j [] d = refl
more_other k j (x ∷ hs) d = grind (arith, nat_tests, more_other k j hs)

shut : (k : ℕ) (hs : List Handle) → is_open hs k ≡ false → open_at hs k ≡ 0
shut k [] h = refl
shut k (x ∷ hs) h = grind (arith, nat_tests, shut k hs)

first_same : (k : ℕ) (hs : List Handle) → is_open hs k ≡ false → open_at (put_before (comes_after k) (record { serial = k; count = 1 }) hs) k ≡ open_at hs k + 1
first_same k [] h = grind (arith, nat_tests)
first_same k (x ∷ hs) h = grind (arith, nat_tests, first_same k hs, shut k (x ∷ hs))

first_other : (k j : ℕ) (hs : List Handle) → k ≢ j → open_at (put_before (comes_after k) (record { serial = k; count = 1 }) hs) j ≡ open_at hs j
first_other k j [] d = grind (arith, nat_tests)
first_other k j (x ∷ hs) d = grind (arith, nat_tests, first_other k j hs)

opened_by : (k : ℕ) (hs : List Handle) (b : Bool) → is_open hs k ≡ b → OneMoreOpen k hs (opened_with k hs b)
opened_by k hs true h = (more_same k hs h, λ j d. more_other k j hs d)
opened_by k hs false h = (first_same k hs h, λ j d. first_other k j hs d)

pub opened_one_more : (k : ℕ) (hs : List Handle) → OneMoreOpen k hs (opened k hs)
opened_one_more k hs = opened_by k hs (is_open hs k) refl

-- and where one is closed

less_same : (lo k : ℕ) (hs : List Handle) (h : Handle) → HandlesInOrder lo hs → find (is_handle_of k) hs ≡ Some h → open_at hs k ≡ open_at (changed_first (is_handle_of k) one_less hs) k + 1
less_same lo k [] h order at = absurd (cc)
less_same lo k (x ∷ hs) h order at = grind (arith, nat_tests, less_same (x.serial + 1) k hs h)

less_other : (k j : ℕ) (hs : List Handle) → k ≢ j → open_at hs j ≡ open_at (changed_first (is_handle_of k) one_less hs) j
less_other k j [] d = refl
less_other k j (x ∷ hs) d = grind (arith, nat_tests, less_other k j hs)

none_below : (lo k : ℕ) (hs : List Handle) → k + 1 ≤ lo → HandlesInOrder lo hs → open_at hs k ≡ 0
none_below lo k [] l order = refl
none_below lo k (x ∷ hs) l order = grind (arith, nat_tests, none_below (x.serial + 1) k hs)

last_same : (lo k : ℕ) (hs : List Handle) (h : Handle) → HandlesInOrder lo hs → find (is_handle_of k) hs ≡ Some h → nat_lt 1 h.count ≡ false → open_at hs k ≡ open_at (without_first (is_handle_of k) hs) k + 1
last_same lo k [] h order at last = absurd (cc)
last_same lo k (x ∷ hs) h order at last = grind (arith, nat_tests, last_same (x.serial + 1) k hs h, none_below (x.serial + 1) k hs)

last_other : (k j : ℕ) (hs : List Handle) → k ≢ j → open_at hs j ≡ open_at (without_first (is_handle_of k) hs) j
last_other k j [] d = refl
last_other k j (x ∷ hs) d = grind (arith, nat_tests, last_other k j hs)

pub closed_one_less : (k : ℕ) (hs : List Handle) (h : Handle) (more : Bool) → HandlesInOrder 0 hs → find (is_handle_of k) hs ≡ Some h → nat_lt 1 h.count ≡ more → OneMoreOpen k (closed_with k hs more) hs
closed_one_less k hs h true order at more = (less_same 0 k hs h order at, λ j d. less_other k j hs d)
closed_one_less k hs h false order at last = (last_same 0 k hs h order at last, λ j d. last_other k j hs d)

-- the last one was the only one
pub count_is : (k : ℕ) (hs : List Handle) (h : Handle) → find (is_handle_of k) hs ≡ Some h → open_at hs k ≡ h.count
count_is k [] h at = absurd (cc)
count_is k (x ∷ hs) h at = grind (arith, nat_tests, count_is k hs h)
