use Rattle.std.proofs.Common.{◌∙◌, sym}
use Rattle.devnode_tree.proofs.Lowering.{full_there}
use Rattle.devnode_tree.proofs.bottoms.is_full_child.Goals as goal

pub returns-in-Some : goal.returns-in-Some
returns-in-Some c =
    λ told. full_there c.args.entries.now c.args.serial c.args.child c.in-Some.place c.in-Some.ensures c.index-entries-place.result c.index-entries-place.is (sym c.is_full_child.ensures ∙ told)
