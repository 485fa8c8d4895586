-- A list cut at the first element that passes.
use Rattle.std.specs.Prelude.{ℕ, ◌+◌, List, Bool, take, drop, Option, Some, None}
use Rattle.std.specs.List.{position}

abbrev pub cut_by : {X : Type 0} → List X → Option ℕ → Option (List X × List X)
cut_by xs None = None
cut_by xs (Some at) = Some (take at xs, drop (at + 1) xs)

-- what stands before the first that passes, and what stands behind it
unfoldable pub cut_at : {X : Type 0} → (X → Bool) → List X → Option (List X × List X)
cut_at p xs = cut_by xs (position p xs)
