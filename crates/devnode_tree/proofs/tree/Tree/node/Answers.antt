use Rattle.std.proofs.Common.{◌∙◌, ap, sym, Some}
use Rattle.devnode_tree.specs.Entries.{Entry}
use Rattle.devnode_tree.proofs.Lookups.{node_found, node_missing}
use Rattle.devnode_tree.proofs.tree.Tree.node.Goals as goal

pub returns-in_err-place-clause-node : goal.returns-in_err-place-clause-node
returns-in_err-place-clause-node c =
    rw (c.from_residual.ensures, ← c.self.view_is) (sym (node_missing c.self.inside.entries.items c.deref.result.now c.deref.ensures.value c.args.serial c.in_err-place.ensures))

pub returns-clause-node : goal.returns-clause-node
returns-clause-node c =
    rw (← c.self.view_is)
    (ap (λ (e : Entry). Some e.node) c.behind-self.view_is
    ∙ sym (node_found c.self.inside.entries.items c.deref.result.now c.deref.ensures.value c.args.serial c.in_ok-place.place c.in_ok-place.ensures c.index.result.now c.index.ensures))
