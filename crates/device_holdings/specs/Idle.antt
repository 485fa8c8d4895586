-- Devices that hold nothing. No public contract cites this.
use Rattle.std.specs.Prelude.{◌≡◌, ℕ, List, [], Contains}
use Rattle.std.specs.List.{AllByRecursion}
use Rattle.pnp_model.specs.Records.{Node}

-- no node of the serial holds anything
abbrev pub IsIdle : ℕ → List Node → Type 0
IsIdle k nodes = AllByRecursion (λ n. n.serial ≡ k → n.holds ≡ []) nodes

-- the same of each of these serials
abbrev pub AreIdle : List ℕ → List Node → Type 0
AreIdle serials nodes = (k : ℕ) → Contains serials k → IsIdle k nodes
