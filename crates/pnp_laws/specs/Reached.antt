-- The states of runs.
use Rattle.std.specs.Prelude.{List}
use Rattle.pnp_model.specs.Records.{Driver, State, Settings}
use Rattle.pnp_model.specs.Runs.{Entry}
use Rattle.pnp_model.specs.Laws.{Reaches}

-- some run leads to this state
abbrev pub IsReached : Settings → List Driver → State → Type 0
IsReached settings rack s = (entries : List Entry) × Reaches settings rack entries s
