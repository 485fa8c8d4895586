use Rattle.std.proofs.Common.{◌≡◌, ◌++◌, drop}
use Rattle.pnp_model.specs.Keyed.{those}
use Rattle.script_bus.specs.Differences.{is_lost_serial}
use Rattle.script_bus.proofs.listing.gone_below.Given as goal

abbrev pub invariant-loop-child : goal.invariant-loop-child
invariant-loop-child l = l.gone ++ those (is_lost_serial l.world l.tree) (drop l.child-index l.child-items) ≡ those (is_lost_serial l.world l.tree) l.child-items
