-- A device that a rebalance asks.
use Rattle.std.specs.Prelude.{Bool, false, Option, Some, None}
use Rattle.pnp_model.specs.Records.{Node}
use Rattle.pnp_model.specs.Rebalances.{is_asked}

-- it is there and is asked
abbrev pub is_asked_in : Option Node → Bool
is_asked_in None = false
is_asked_in (Some n) = is_asked n
