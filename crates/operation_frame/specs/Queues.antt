-- The devices that are still to do.
use Rattle.std.specs.Prelude.{ℕ, List, [], ◌∷◌}

-- the set, where no other device is still to do
abbrev pub all_after : List ℕ → List ℕ → List ℕ
all_after set [] = set
all_after set (k ∷ ks) = []

-- these, where none is to do
abbrev pub filled : List ℕ → List ℕ → List ℕ
filled [] all = all
filled (k ∷ ks) all = k ∷ ks
