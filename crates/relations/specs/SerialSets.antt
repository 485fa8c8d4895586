-- How serials are looked up.
use Rattle.std.specs.Prelude.{◌≡◌, ℕ, List, nat_eq}
use Rattle.std.specs.HashSet.{HashSet, contains}
use Rattle.pnp_model.specs.Tests.{has}

-- the index has those of the list
abbrev pub IsIndexOf : {S : Type 0} → HashSet ℕ S → List ℕ → Type 0
IsIndexOf index serials = (k : ℕ) → contains nat_eq index k ≡ has serials k
