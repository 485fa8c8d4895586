use Rattle.std.proofs.Common.{◌<◌, ◌^◌, ◌+◌, subst, ◌∙◌, ap, sym, not, true, refl}
use Rattle.device_ids.specs.Folding.{folded}
use Rattle.pnp_model.specs.Cores.{fresh_node}
use Rattle.devnode_tree.specs.Trees.{Tree}
use Rattle.devnode_tree.proofs.Changes.{nodes_tree}
use Rattle.devnode_tree.proofs.Faults.{without_parent, with_path, short, joins}
use Rattle.devnode_tree.proofs.Joins.{kept_joined, nodes_joined, births_joined}
use Rattle.devnode_tree.specs.Bottoms.{BottomsFrom}
use Rattle.devnode_tree.specs.Entries.{nodes_of}
use Rattle.devnode_tree.proofs.Lowering.{from_joined}
use Rattle.devnode_tree.proofs.Lookups.{node_is_there, path_there, has_some}
use Rattle.devnode_tree.proofs.tree.Tree.join.Goals as goal

pub returns-then-is_none-clause-no_parent : goal.returns-then-is_none-clause-no_parent
returns-then-is_none-clause-no_parent c = rw (← c.self.view_is) (without_parent _ true (node_is_there c.self.inside.entries.items c.deref.result.now c.deref.ensures.value c.args.parent c.place_of.result c.place_of.ensures ∙ (c.is_none.ensures ∙ ap not c.if-is_none.true))).no_parent

pub returns-then-is_none-clause-same_path : goal.returns-then-is_none-clause-same_path
returns-then-is_none-clause-same_path c = rw (← c.self.view_is) (without_parent _ _ (node_is_there c.self.inside.entries.items c.deref.result.now c.deref.ensures.value c.args.parent c.place_of.result c.place_of.ensures ∙ (c.is_none.ensures ∙ ap not c.if-is_none.true))).same_path

pub returns-then-contains-clause-no_parent : goal.returns-then-contains-clause-no_parent
returns-then-contains-clause-no_parent c = rw (← c.self.view_is) (with_path _ _ (node_is_there c.self.inside.entries.items c.deref.result.now c.deref.ensures.value c.args.parent c.place_of.result c.place_of.ensures ∙ (c.is_none.ensures ∙ ap not c.if-is_none.false)) (sym (path_there folded c.self.inside.paths.keys c.self.inside.entries.items c.self.inside.next c.self.invariant.kept c.args.path) ∙ (sym c.contains.ensures ∙ c.if-contains.true))).no_parent

pub returns-then-contains-clause-same_path : goal.returns-then-contains-clause-same_path
returns-then-contains-clause-same_path c = rw (← c.self.view_is) (with_path _ _ (node_is_there c.self.inside.entries.items c.deref.result.now c.deref.ensures.value c.args.parent c.place_of.result c.place_of.ensures ∙ (c.is_none.ensures ∙ ap not c.if-is_none.false)) (sym (path_there folded c.self.inside.paths.keys c.self.inside.entries.items c.self.inside.next c.self.invariant.kept c.args.path) ∙ (sym c.contains.ensures ∙ c.if-contains.true))).same_path

pub returns-in-Ok-clause-no_parent : goal.returns-in-Ok-clause-no_parent
returns-in-Ok-clause-no_parent c = rw (← c.self.view_is) (joins _ _ (node_is_there c.self.inside.entries.items c.deref.result.now c.deref.ensures.value c.args.parent c.place_of.result c.place_of.ensures ∙ (c.is_none.ensures ∙ ap not c.if-is_none.false)) (sym (path_there folded c.self.inside.paths.keys c.self.inside.entries.items c.self.inside.next c.self.invariant.kept c.args.path) ∙ (sym c.contains.ensures ∙ c.if-contains.false)) _).no_parent

pub returns-in-Ok-clause-same_path : goal.returns-in-Ok-clause-same_path
returns-in-Ok-clause-same_path c = rw (← c.self.view_is) (joins _ _ (node_is_there c.self.inside.entries.items c.deref.result.now c.deref.ensures.value c.args.parent c.place_of.result c.place_of.ensures ∙ (c.is_none.ensures ∙ ap not c.if-is_none.false)) (sym (path_there folded c.self.inside.paths.keys c.self.inside.entries.items c.self.inside.next c.self.invariant.kept c.args.path) ∙ (sym c.contains.ensures ∙ c.if-contains.false)) _).same_path

pub returns-in-Err-clause-no_parent : goal.returns-in-Err-clause-no_parent
returns-in-Err-clause-no_parent c = rw (← c.self.view_is) (short _ _ (node_is_there c.self.inside.entries.items c.deref.result.now c.deref.ensures.value c.args.parent c.place_of.result c.place_of.ensures ∙ (c.is_none.ensures ∙ ap not c.if-is_none.false)) (sym (path_there folded c.self.inside.paths.keys c.self.inside.entries.items c.self.inside.next c.self.invariant.kept c.args.path) ∙ (sym c.contains.ensures ∙ c.if-contains.false))).no_parent

pub returns-in-Err-clause-same_path : goal.returns-in-Err-clause-same_path
returns-in-Err-clause-same_path c = rw (← c.self.view_is) (short _ _ (node_is_there c.self.inside.entries.items c.deref.result.now c.deref.ensures.value c.args.parent c.place_of.result c.place_of.ensures ∙ (c.is_none.ensures ∙ ap not c.if-is_none.false)) (sym (path_there folded c.self.inside.paths.keys c.self.inside.entries.items c.self.inside.next c.self.invariant.kept c.args.path) ∙ (sym c.contains.ensures ∙ c.if-contains.false))).same_path

pub invariant_of-self : goal.invariant_of-self
invariant_of-self c = record {
  kept = rw (c.in-Ok.ensures.path, c.in-Ok.ensures.entry, c.fresh-node.ensures) (kept_joined _ c.self.inside.entries.items c.self.inside.next c.self.invariant.kept (fresh_node c.self.inside.next c.args.parent c.args.born c.args.path c.args.hw c.args.compat c.args.reqs) refl (has_some c.args.parent _ (node_is_there c.self.inside.entries.items c.deref.result.now c.deref.ensures.value c.args.parent c.place_of.result c.place_of.ensures ∙ (c.is_none.ensures ∙ ap not c.if-is_none.false))) (subst (λ (t : Tree). t.next < 2 ^ 63) (sym c.self.view_is) c.requires.room));
  births_are = rw (c.in-Ok.ensures.born, c.in-Ok.ensures.entry, c.fresh-node.ensures)
      (births_joined c.self.inside.entries.items (fresh_node c.self.inside.next c.args.parent c.args.born c.args.path c.args.hw c.args.compat c.args.reqs) c.self.inside.births c.self.invariant.births_are);
  bottoms_are = rw (c.in-Ok.ensures.entry, c.fresh-node.ensures)
      (subst (BottomsFrom c.self.inside.lowest) (sym (nodes_joined _ c.self.inside.entries.items c.self.inside.next c.self.invariant.kept (fresh_node c.self.inside.next c.args.parent c.args.born c.args.path c.args.hw c.args.compat c.args.reqs) refl (has_some c.args.parent _ (node_is_there c.self.inside.entries.items c.deref.result.now c.deref.ensures.value c.args.parent c.place_of.result c.place_of.ensures ∙ (c.is_none.ensures ∙ ap not c.if-is_none.false)))))
      (from_joined (nodes_of c.self.inside.entries.items) c.self.inside.lowest c.self.invariant.bottoms_are (fresh_node c.self.inside.next c.args.parent c.args.born c.args.path c.args.hw c.args.compat c.args.reqs) refl refl));
}

pub returns-in-Ok-clause-joined : goal.returns-in-Ok-clause-joined
returns-in-Ok-clause-joined c =
    rw (← c.self.view_is, c.in-Ok.ensures.entry, c.fresh-node.ensures)
    (ap (nodes_tree (c.self.inside.next + 1)) (nodes_joined _ c.self.inside.entries.items c.self.inside.next c.self.invariant.kept (fresh_node c.self.inside.next c.args.parent c.args.born c.args.path c.args.hw c.args.compat c.args.reqs) refl (has_some c.args.parent _ (node_is_there c.self.inside.entries.items c.deref.result.now c.deref.ensures.value c.args.parent c.place_of.result c.place_of.ensures ∙ (c.is_none.ensures ∙ ap not c.if-is_none.false)))))

pub returns-in-Ok-clause-tree : goal.returns-in-Ok-clause-tree
returns-in-Ok-clause-tree c =
    rw (c.in-Ok.ensures.entry, c.fresh-node.ensures) (kept_joined _ c.self.inside.entries.items c.self.inside.next c.self.invariant.kept (fresh_node c.self.inside.next c.args.parent c.args.born c.args.path c.args.hw c.args.compat c.args.reqs) refl (has_some c.args.parent _ (node_is_there c.self.inside.entries.items c.deref.result.now c.deref.ensures.value c.args.parent c.place_of.result c.place_of.ensures ∙ (c.is_none.ensures ∙ ap not c.if-is_none.false))) (subst (λ (t : Tree). t.next < 2 ^ 63) (sym c.self.view_is) c.requires.room)).tree

pub add-requires-clause-new : goal.add-requires-clause-new
add-requires-clause-new c = rw c.fresh-node.ensures (sym c.contains.ensures ∙ c.if-contains.false)
