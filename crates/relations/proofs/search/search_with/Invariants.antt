use Rattle.std.proofs.Common.{◌-◌, length}
use Rattle.pnp_model.specs.Trees.{set_of}
use Rattle.relations.specs.Leaving.{base}
use Rattle.relations.proofs.Searching.{Searched}
use Rattle.relations.proofs.search.search_with.Given as goal

abbrev pub invariant-loop-at : goal.invariant-loop-at
invariant-loop-at l = Searched l.tree.nodes l.relations l.target l.found.order.items l.found.counts l.at

abbrev pub decreases-loop-at : goal.decreases-loop-at
decreases-loop-at l = length (set_of (base l.tree.nodes l.relations) l.target) - l.at
