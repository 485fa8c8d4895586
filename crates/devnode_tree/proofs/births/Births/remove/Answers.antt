use Rattle.std.proofs.Common.{sym, subst}
use Rattle.devnode_tree.specs.Trees.{Ascends}
use Rattle.devnode_tree.proofs.Ascending.{ascends_removed}
use Rattle.devnode_tree.proofs.births.Births.remove.Goals as goal

pub invariant_of-self : goal.invariant_of-self
invariant_of-self c ascend = subst (Ascends 0) (sym c.remove.ensures.items) (ascends_removed 0 c.self.inside.list.items c.args.at (c.self.invariant ascend))
