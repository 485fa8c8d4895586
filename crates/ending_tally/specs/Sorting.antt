-- Lists in order.
use Rattle.std.specs.Prelude.{Bool, List, [], ◌∷◌, if◌then◌else◌}

-- in a list in order one more, behind those that are less
abbrev pub place_by : {X : Type 0} → (X → X → Bool) → X → List X → List X
place_by less x [] = x ∷ []
place_by less x (y ∷ ys) = if less y x then y ∷ place_by less x ys else x ∷ y ∷ ys

-- a list in order; those of which none is less than the other stay as they stood
abbrev pub sorted_by : {X : Type 0} → (X → X → Bool) → List X → List X
sorted_by less [] = []
sorted_by less (x ∷ xs) = place_by less x (sorted_by less xs)
