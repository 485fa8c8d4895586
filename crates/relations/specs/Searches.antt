-- What one search from a device finds.
use Rattle.std.specs.Prelude.{◌≡◌, ℕ, ◌++◌, ◌==◌, if◌then◌else◌, true, false, List, Some, is_some, length, nat_eq}
use Rattle.std.specs.HashMap.{HashMap, get}
use Rattle.pnp_model.specs.Records.{Node, Relation}
use Rattle.pnp_model.specs.Tests.{has}
use Rattle.pnp_model.specs.Trees.{set_of}
use Rattle.pnp_laws.specs.Kept.{Distinct}
use Rattle.relations.specs.Leaving.{base, below}

module _ {S : Type 0} where
  -- nobody twice, and each has a count
  pub record IsKept (order : List ℕ) (counts : HashMap ℕ ℕ S) : Type 0 where
    pub distinct : Distinct order
    pub keys : (k : ℕ) → is_some (get nat_eq counts k) ≡ has order k

  -- those of these that were not there are appended, and all else stays
  pub record Notes (order order' : List ℕ) (counts counts' : HashMap ℕ ℕ S) (serials : List ℕ) : Type 0 where
    pub kept : IsKept order' counts'
    pub more : List ℕ
    pub appended : order' ≡ order ++ more
    pub all : (k : ℕ) → has serials k ≡ true → is_some (get nat_eq counts' k) ≡ true
    pub same : (k : ℕ) → is_some (get nat_eq counts k) ≡ true → get nat_eq counts' k ≡ get nat_eq counts k
    pub only : (k : ℕ) → is_some (get nat_eq counts' k) ≡ true → has serials k ≡ false → is_some (get nat_eq counts k) ≡ true

  -- the device has this count, all others keep theirs
  abbrev pub IsCounted : HashMap ℕ ℕ S → HashMap ℕ ℕ S → ℕ → ℕ → Type 0
  IsCounted counts counts' k n = (q : ℕ) → get nat_eq counts' q ≡ (if k == q then Some n else get nat_eq counts q)

  -- the device and its dependents, each with the number of edges from its direct dependents
  pub record IsSet (nodes : List Node) (relations : List Relation) (target : ℕ) (order : List ℕ) (counts : HashMap ℕ ℕ S) : Type 0 where
    pub kept : IsKept order counts
    pub set : (k : ℕ) → has order k ≡ has (set_of (base nodes relations) target) k
    pub counted : (k : ℕ) → has order k ≡ true → get nat_eq counts k ≡ Some (length (below nodes relations k))
