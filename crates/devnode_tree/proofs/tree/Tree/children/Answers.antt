use Rattle.std.proofs.Common.{◌∙◌, ap, sym}
use Rattle.devnode_tree.specs.Entries.{Entry}
use Rattle.devnode_tree.proofs.Lookups.{children_found, children_missing, node_missing}
use Rattle.devnode_tree.proofs.tree.Tree.children.Goals as goal

pub returns-in-Some : goal.returns-in-Some
returns-in-Some c =
    rw (← c.self.view_is)
    (c.deref-in-Some.ensures.value
    ∙ (ap (λ (e : Entry). e.children) c.behind-self.view_is
    ∙ children_found c.self.inside.entries.items c.deref.result.now c.deref.ensures.value c.args.serial c.in-Some.place c.in-Some.ensures c.index.result.now c.index.ensures c.self.invariant.kept))

pub returns-in-None : goal.returns-in-None
returns-in-None c =
    rw (← c.self.view_is)
    (sym (children_missing c.args.serial _ c.self.invariant.kept.tree.parents (node_missing c.self.inside.entries.items c.deref.result.now c.deref.ensures.value c.args.serial c.in-None.ensures)))
