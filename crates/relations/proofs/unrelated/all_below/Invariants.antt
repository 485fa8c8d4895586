use Rattle.std.proofs.Common.{[], ◌-◌, length}
use Rattle.pnp_model.specs.Trees.{set_of}
use Rattle.relations.specs.Leaving.{base}
use Rattle.relations.proofs.Descents.{Descends}
use Rattle.relations.proofs.unrelated.all_below.Given as goal

abbrev pub invariant-loop-at : goal.invariant-loop-at
invariant-loop-at l = Descends l.tree.nodes l.target l.found.items l.at

abbrev pub decreases-loop-at : goal.decreases-loop-at
decreases-loop-at l = length (set_of (base l.tree.nodes []) l.target) - l.at
