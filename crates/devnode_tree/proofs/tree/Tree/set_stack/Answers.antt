use Rattle.std.proofs.Common.{List, subst, sym}
use Rattle.pnp_model.specs.Cores.{serials_of, with_stack}
use Rattle.devnode_tree.specs.Entries.{Entry, nodes_of}
use Rattle.devnode_tree.specs.Trees.{Ascends}
use Rattle.devnode_tree.proofs.Changes.{kept_set, births_set, seen_set, unchanged}
use Rattle.devnode_tree.proofs.Lowering.{lowered_set}
use Rattle.devnode_tree.proofs.Keeping.{keeps_stack}
use Rattle.devnode_tree.proofs.tree.Tree.set_stack.Goals as goal

pub lowered-self-inside-requires : goal.lowered-self-inside-requires
lowered-self-inside-requires c =
    subst (λ (es : List Entry). Ascends 0 (serials_of (nodes_of es))) (sym c.deref-in-Some.ensures.value) (kept_set (with_stack c.args.stack c.args.state) (keeps_stack c.args.stack c.args.state) c.self.inside.entries.items c.deref.result.now c.deref.ensures.value c.self.inside.next c.args.serial c.in-Some.place c.in-Some.ensures c.index_mut.result.now c.set_stack.new.self c.index_mut.ensures.value c.set_stack.ensures _ c.self.invariant.kept).tree.ascends

pub invariant_of-self : goal.invariant_of-self
invariant_of-self c = record {
  kept = kept_set (with_stack c.args.stack c.args.state) (keeps_stack c.args.stack c.args.state) c.self.inside.entries.items c.deref.result.now c.deref.ensures.value c.self.inside.next c.args.serial c.in-Some.place c.in-Some.ensures c.index_mut.result.now c.set_stack.new.self c.index_mut.ensures.value c.set_stack.ensures _ c.self.invariant.kept;
  births_are = births_set (with_stack c.args.stack c.args.state) (keeps_stack c.args.stack c.args.state) c.self.inside.entries.items c.deref.result.now c.deref.ensures.value c.self.inside.next c.args.serial c.in-Some.place c.in-Some.ensures c.index_mut.result.now c.set_stack.new.self c.index_mut.ensures.value c.set_stack.ensures _ c.self.invariant.births_are;
  bottoms_are = lowered_set (with_stack c.args.stack c.args.state) (keeps_stack c.args.stack c.args.state) c.self.inside.entries.items c.deref.result.now c.deref.ensures.value c.self.inside.next c.args.serial c.in-Some.place c.in-Some.ensures c.index_mut.result.now c.set_stack.new.self c.index_mut.ensures.value c.set_stack.ensures c.self.inside.lowest c.self.invariant.bottoms_are c.parent-parent.result c.index.result.now c.index.ensures c.parent-parent.ensures c.deref-in-Some.result.now c.deref-in-Some.ensures.value c.lowered-self-inside.result c.lowered-self-inside.ensures.less c.lowered-self-inside.ensures.bottom c.lowered-self-inside.ensures.above;
}

pub returns-in-Some : goal.returns-in-Some
returns-in-Some c = rw (← c.self.view_is) (seen_set (with_stack c.args.stack c.args.state) (keeps_stack c.args.stack c.args.state) c.self.inside.entries.items c.deref.result.now c.deref.ensures.value c.self.inside.next c.args.serial c.in-Some.place c.in-Some.ensures c.index_mut.result.now c.set_stack.new.self c.index_mut.ensures.value c.set_stack.ensures)

pub returns-in_default : goal.returns-in_default
returns-in_default c = rw (← c.self.view_is) (unchanged (with_stack c.args.stack c.args.state) c.self.inside.entries.items c.deref.result.now c.deref.ensures.value c.self.inside.next c.args.serial c.in_default.ensures)
