use Rattle.std.proofs.Common.{◌≡◌, ℕ, ◌<◌, false, get_or}
use Rattle.pnp_model.specs.Tests.{is_surprise_removed}
use Rattle.devnode_tree.specs.Entries.{Entry}
use Rattle.devnode_tree.proofs.bottoms.first_told.Given as goal

abbrev pub invariant-loop-entry : goal.invariant-loop-entry
invariant-loop-entry l = (j : ℕ) (x : Entry) → j < l.entry-index → is_surprise_removed (get_or l.entries j x).node.state ≡ false
