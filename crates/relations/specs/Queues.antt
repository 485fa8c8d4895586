-- Edges that go away, and the devices that they free.
use Rattle.std.specs.Prelude.{◌≡◌, ℕ, ◌+◌, ◌-◌, ◌*◌, ◌==◌, Bool, false, ◌&&◌, List, Option, Some, None, nat_lt, nat_eq, option_map, count_by, if◌then◌else◌}
use Rattle.std.specs.HashMap.{HashMap, get}

-- how often a serial stands there
abbrev pub number : ℕ → List ℕ → ℕ
number k serials = count_by (λ j. j == k) serials

-- one where the last of so many edges goes away
abbrev pub freed : Option ℕ → ℕ → ℕ
freed None gone = 0
freed (Some n) gone = if nat_lt 0 n && n == gone then 1 else 0

-- no edge leads there
abbrev pub is_zero : Option ℕ → Bool
is_zero None = false
is_zero (Some n) = n == 0

module _ {S : Type 0} where
  -- one edge less to each of these
  abbrev pub IsLowered : HashMap ℕ ℕ S → HashMap ℕ ℕ S → List ℕ → Type 0
  IsLowered old new serials = (q : ℕ) → get nat_eq new q ≡ option_map (λ n. n - number q serials) (get nat_eq old q)

  -- those of these to which no edge is left have joined
  abbrev pub Joins : HashMap ℕ ℕ S → List ℕ → List ℕ → List ℕ → Type 0
  Joins counts old new serials = (q : ℕ) → number q new ≡ number q old + freed (get nat_eq counts q) (number q serials)

  -- those of these to which no edge leads
  abbrev pub HasFree : HashMap ℕ ℕ S → List ℕ → List ℕ → Type 0
  HasFree counts serials free = (q : ℕ) → number q free ≡ number q serials * (if is_zero (get nat_eq counts q) then 1 else 0)
