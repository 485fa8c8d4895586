-- How far a sweep over pairs has come. No public contract cites this.
use Rattle.std.specs.Prelude.{◌≡◌, ℕ, ◌+◌, ◌-◌, ◌%◌, ◌<◌, ◌≤◌, List}
use Rattle.resource_reqs.specs.Resources.{Want, Clash, res_at, IsOpen}
use Rattle.range_arbiter.specs.Pairs.{Pair, res_list}
use Rattle.range_arbiter.specs.Orders.{In}
use Rattle.range_arbiter.specs.declared.sweep.Ended.{Ended}
use Rattle.range_arbiter.specs.declared.sweep.Ended.TheVariants.{At, Nowhere}

-- the want may be given from there on
pub record IsStart (want : Want) (place : ℕ) : Type 0 where
  pub low : want.min ≤ place
  pub fits : place + want.len ≤ want.max + 1
  pub aligned : place % want.align ≡ 0

-- No start from one number up to another is open beside the pairs, and from there on they clash with the want nowhere.
pub record Passed (pairs : List Pair) (want : Want) (from place : ℕ) : Type 0 where
  pub above : from ≤ place
  pub start : IsStart want place
  pub none_open : (t : ℕ) → from ≤ t → t < place → ¬ IsOpen (res_list pairs) want t
  pub clear : (p : Pair) → In p pairs → (t : ℕ) → place ≤ t → ¬ Clash p.1 (res_at want t)

-- The same where the number need not be a start.
pub record Cleared (pairs : List Pair) (want : Want) (from bound : ℕ) : Type 0 where
  pub above : from ≤ bound
  pub none_open : (t : ℕ) → from ≤ t → t < bound → ¬ IsOpen (res_list pairs) want t
  pub clear : (p : Pair) → In p pairs → (t : ℕ) → bound ≤ t → ¬ Clash p.1 (res_at want t)

-- The place is the first start that is open beside the pairs, and one of them begins beyond it.
pub record Stopped (pairs : List Pair) (want : Want) (from place : ℕ) : Type 0 where
  pub long : 0 < want.len
  pub above : from ≤ place
  pub start : IsStart want place
  pub none_open : (t : ℕ) → from ≤ t → t < place → ¬ IsOpen (res_list pairs) want t
  pub apart : (p : Pair) → In p pairs → ¬ Clash p.1 (res_at want place)
  pub beyond : (p : Pair) × In p pairs × (place + want.len - 1 < p.1.lo)

abbrev pub EndedWith : List Pair → Want → ℕ → Ended → Type 0
EndedWith pairs want from (At place) = Stopped pairs want from place
EndedWith pairs want from Nowhere = (t : ℕ) → from ≤ t → ¬ IsOpen (res_list pairs) want t
