use Rattle.std.proofs.Common.{◌≡◌, ◌++◌, drop}
use Rattle.pnp_model.specs.Keyed.{those}
use Rattle.script_bus.specs.Differences.{is_new_born}
use Rattle.script_bus.proofs.listing.joins_below.Given as goal

abbrev pub invariant-loop-child : goal.invariant-loop-child
invariant-loop-child l = l.joins ++ those (is_new_born l.world l.tree) (drop l.child-index l.child-items) ≡ those (is_new_born l.world l.tree) l.child-items
