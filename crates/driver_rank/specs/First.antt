-- The first of a list in an order, where `before x y` says that x goes before y.
use Rattle.std.specs.Prelude.{List, [], ◌∷◌, Bool, Option, Some, None, if◌then◌else◌}

-- the first of two, and of two that are equal in the order the former
abbrev pub first_of : {X : Type 0} → (X → X → Bool) → Option X → Option X → Option X
first_of before None y = y
first_of before (Some x) None = Some x
first_of before (Some x) (Some y) = if before y x then Some y else Some x

-- the first of all, and none of none
abbrev pub least_of : {X : Type 0} → (X → X → Bool) → List X → Option X
least_of before [] = None
least_of before (x ∷ xs) = first_of before (Some x) (least_of before xs)
