use Rattle.std.proofs.Common.{◌≡◌, ◌∙◌, ap, sym, subst, refl, remove, length, List}
use Rattle.pnp_model.specs.Cores.{serials_of}
use Rattle.pnp_model.specs.Keyed.{changed_first}
use Rattle.indexmap.proofs.SetLemmas.{map-remove}
use Rattle.devnode_tree.specs.Bottoms.{BottomsFrom}
use Rattle.devnode_tree.specs.Entries.{Entry, nodes_of, has_serial, without_child}
use Rattle.devnode_tree.specs.Trees.{Tree, Ascends, CanLeave}
use Rattle.devnode_tree.proofs.Changes.{nodes_tree}
use Rattle.devnode_tree.proofs.Leaves.{kept_left, births_left, nodes_left, none_left, children_ascend, whole, place_in_births}
use Rattle.devnode_tree.proofs.Lookups.{node_found}
use Rattle.devnode_tree.proofs.Lowering.{bottoms_removed}
use Rattle.devnode_tree.proofs.tree.Tree.leave.Goals as goal

pub forget_child-requires-clause-children : goal.forget_child-requires-clause-children
forget_child-requires-clause-children c = rw c.deref_mut.ensures.value (children_ascend _ c.self.inside.entries.items c.self.inside.next c.self.invariant.kept)

pub lowest_left-self-inside-requires : goal.lowest_left-self-inside-requires
lowest_left-self-inside-requires c =
    let can = subst (λ (t : Tree). CanLeave c.args.serial t.nodes) (sym c.self.view_is) c.requires in
    let forgotten : c.forget_child.new.entries ≡ changed_first (has_serial c.index.result.now.node.parent) (without_child c.args.serial) c.self.inside.entries.items =
    rw (c.forget_child.ensures, c.deref_mut.ensures.value, c.parent-parent.ensures) refl in
    let entries_are : c.remove-in-Some.new.self.items ≡ remove (changed_first (has_serial c.index.result.now.node.parent) (without_child c.args.serial) c.self.inside.entries.items) c.in-Some.place =
    c.remove-in-Some.ensures.items
    ∙ ap (λ l. remove l c.in-Some.place)
    (whole c.self.inside.entries.len c.forget_child.new.entries c.self.inside.entries.items (sym c.self.inside.entries.ok.0) (c.forget_child.auto.entries ∙ ap length c.deref_mut.ensures.value) ∙ forgotten) in
    subst (λ (es : List Entry). Ascends 0 (serials_of (nodes_of es))) (sym (c.deref-in-Some.ensures.value ∙ entries_are)) (kept_left _ c.self.inside.entries.items c.deref.result.now c.deref.ensures.value c.self.inside.next c.self.invariant.kept c.args.serial c.in-Some.place c.in-Some.ensures c.index.result.now c.index.ensures can.no_root can.alone).tree.ascends

pub invariant_of-self : goal.invariant_of-self
invariant_of-self c =
    let can = subst (λ (t : Tree). CanLeave c.args.serial t.nodes) (sym c.self.view_is) c.requires in
    let forgotten : c.forget_child.new.entries ≡ changed_first (has_serial c.index.result.now.node.parent) (without_child c.args.serial) c.self.inside.entries.items =
    rw (c.forget_child.ensures, c.deref_mut.ensures.value, c.parent-parent.ensures) refl in
    let entries_are : c.remove-in-Some.new.self.items ≡ remove (changed_first (has_serial c.index.result.now.node.parent) (without_child c.args.serial) c.self.inside.entries.items) c.in-Some.place =
    c.remove-in-Some.ensures.items
    ∙ ap (λ l. remove l c.in-Some.place)
    (whole c.self.inside.entries.len c.forget_child.new.entries c.self.inside.entries.items (sym c.self.inside.entries.ok.0) (c.forget_child.auto.entries ∙ ap length c.deref_mut.ensures.value) ∙ forgotten) in
    record {
      kept = rw (entries_are, c.shift_remove_index.ensures.keys, map-remove) (kept_left _ c.self.inside.entries.items c.deref.result.now c.deref.ensures.value c.self.inside.next c.self.invariant.kept c.args.serial c.in-Some.place c.in-Some.ensures c.index.result.now c.index.ensures can.no_root can.alone);
      bottoms_are = subst (λ (es : List Entry). BottomsFrom c.lowest_left-self-inside.result (nodes_of es)) c.deref-in-Some.ensures.value
          (c.lowest_left-self-inside.ensures
          (bottoms_removed c.self.inside.entries.items c.args.serial c.index.result.now.node
          (node_found c.self.inside.entries.items c.deref.result.now c.deref.ensures.value c.args.serial c.in-Some.place c.in-Some.ensures c.index.result.now c.index.ensures)
          c.self.inside.lowest c.self.invariant.bottoms_are c.self.invariant.kept.tree.ascends _
          (nodes_left _ c.self.inside.entries.items c.deref.result.now c.deref.ensures.value c.self.inside.next c.self.invariant.kept c.args.serial c.in-Some.place c.in-Some.ensures c.index.result.now c.index.ensures)
          c.parent-parent.result c.parent-parent.ensures c.deref-in-Some.result.now (c.deref-in-Some.ensures.value ∙ entries_are)));
      births_are = rw (entries_are, c.remove.ensures) (births_left c.self.inside.entries.items c.args.serial c.in-Some.place (c.index.result.now.node.parent) c.self.inside.births c.self.invariant.births_are);
    }

pub returns-in-Some : goal.returns-in-Some
returns-in-Some c =
    let forgotten : c.forget_child.new.entries ≡ changed_first (has_serial c.index.result.now.node.parent) (without_child c.args.serial) c.self.inside.entries.items =
    rw (c.forget_child.ensures, c.deref_mut.ensures.value, c.parent-parent.ensures) refl in
    let entries_are : c.remove-in-Some.new.self.items ≡ remove (changed_first (has_serial c.index.result.now.node.parent) (without_child c.args.serial) c.self.inside.entries.items) c.in-Some.place =
    c.remove-in-Some.ensures.items
    ∙ ap (λ l. remove l c.in-Some.place)
    (whole c.self.inside.entries.len c.forget_child.new.entries c.self.inside.entries.items (sym c.self.inside.entries.ok.0) (c.forget_child.auto.entries ∙ ap length c.deref_mut.ensures.value) ∙ forgotten) in
    rw (← c.self.view_is, entries_are) (ap (nodes_tree c.self.inside.next) (nodes_left _ c.self.inside.entries.items c.deref.result.now c.deref.ensures.value c.self.inside.next c.self.invariant.kept c.args.serial c.in-Some.place c.in-Some.ensures c.index.result.now c.index.ensures))

pub returns-in_default : goal.returns-in_default
returns-in_default c = rw (← c.self.view_is) (none_left c.self.inside.entries.items c.deref.result.now c.deref.ensures.value c.self.inside.next c.args.serial c.in_default.ensures)

pub remove-requires : goal.remove-requires
remove-requires c =
    place_in_births c.self.inside.entries.items c.deref.result.now c.deref.ensures.value c.args.serial c.in-Some.place c.in-Some.ensures c.self.inside.births c.self.invariant.births_are
