-- How far a request has come.
use Rattle.std.specs.Prelude.{ℕ}
use Rattle.pnp_model.specs.Records.{Walk}

-- its walk, and the place of the driver that was asked last, 0 before the first
pub record Standing : Type 0 where
  pub walk : Walk
  pub pos : ℕ
