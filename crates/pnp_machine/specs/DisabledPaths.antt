-- The disabled paths.
use Rattle.std.specs.Prelude.{ℕ, List}
use Rattle.pnp_labels.specs.Texts.{Text}

-- the paths in the order in which they were disabled, and for how many more there is room
pub record DisabledPaths : Type 0 where
  pub paths : List Text
  pub room : ℕ
