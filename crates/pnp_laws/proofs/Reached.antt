-- What a reached state is.
use Rattle.std.proofs.Common.{List}
use Rattle.pnp_model.specs.Records.{Driver, State, Settings}
use Rattle.pnp_laws.specs.Reached.{IsReached}
use Rattle.pnp_laws.proofs.Standing.{Tree}
use Rattle.pnp_laws.specs.Kept.{IsGood}
use Rattle.pnp_laws.proofs.RunsStand.{reaches_kept}

-- each reached state is good
pub reached_is_good : (settings : Settings) (rack : List Driver) (s : State) → IsReached settings rack s → IsGood s
reached_is_good settings rack s (entries, run) = (reaches_kept settings rack entries s run).good

-- and its tree
pub reached_tree : (settings : Settings) (rack : List Driver) (s : State) → IsReached settings rack s → Tree s.next_serial s.core
reached_tree settings rack s (entries, run) = (reaches_kept settings rack entries s run).stands.tree
