use Rattle.std.proofs.Common.{◌∙◌, ap, sym, option_map, [], List, subst}
use Rattle.std.specs.Option.{unwrap_or}
use Rattle.pnp_model.specs.Cores.{serials_of, bare}
use Rattle.pnp_model.specs.Records.{Node}
use Rattle.devnode_tree.specs.Entries.{Entry, nodes_of}
use Rattle.devnode_tree.specs.Trees.{Ascends}
use Rattle.devnode_tree.proofs.Changes.{kept_set, births_set, seen_set, unchanged}
use Rattle.devnode_tree.proofs.Lowering.{lowered_set}
use Rattle.devnode_tree.proofs.Keeping.{keeps_bare}
use Rattle.devnode_tree.proofs.Lookups.{node_found, node_missing}
use Rattle.devnode_tree.proofs.tree.Tree.strip.Goals as goal

pub lowered-self-inside-requires : goal.lowered-self-inside-requires
lowered-self-inside-requires c =
    subst (λ (es : List Entry). Ascends 0 (serials_of (nodes_of es))) (sym c.deref-in-Some.ensures.value) (kept_set bare keeps_bare c.self.inside.entries.items c.deref.result.now c.deref.ensures.value c.self.inside.next c.args.serial c.in-Some.place c.in-Some.ensures c.index_mut.result.now c.strip-holds.new.self c.index_mut.ensures.value c.strip-holds.ensures.new _ c.self.invariant.kept).tree.ascends

pub invariant_of-self : goal.invariant_of-self
invariant_of-self c = record {
  kept = kept_set bare keeps_bare c.self.inside.entries.items c.deref.result.now c.deref.ensures.value c.self.inside.next c.args.serial c.in-Some.place c.in-Some.ensures c.index_mut.result.now c.strip-holds.new.self c.index_mut.ensures.value c.strip-holds.ensures.new _ c.self.invariant.kept;
  births_are = births_set bare keeps_bare c.self.inside.entries.items c.deref.result.now c.deref.ensures.value c.self.inside.next c.args.serial c.in-Some.place c.in-Some.ensures c.index_mut.result.now c.strip-holds.new.self c.index_mut.ensures.value c.strip-holds.ensures.new _ c.self.invariant.births_are;
  bottoms_are = lowered_set bare keeps_bare c.self.inside.entries.items c.deref.result.now c.deref.ensures.value c.self.inside.next c.args.serial c.in-Some.place c.in-Some.ensures c.index_mut.result.now c.strip-holds.new.self c.index_mut.ensures.value c.strip-holds.ensures.new c.self.inside.lowest c.self.invariant.bottoms_are c.parent-parent.result c.index.result.now c.index.ensures c.parent-parent.ensures c.deref-in-Some.result.now c.deref-in-Some.ensures.value c.lowered-self-inside.result c.lowered-self-inside.ensures.less c.lowered-self-inside.ensures.bottom c.lowered-self-inside.ensures.above;
}

pub returns-in-Some-clause-set : goal.returns-in-Some-clause-set
returns-in-Some-clause-set c = rw (← c.self.view_is) (seen_set bare keeps_bare c.self.inside.entries.items c.deref.result.now c.deref.ensures.value c.self.inside.next c.args.serial c.in-Some.place c.in-Some.ensures c.index_mut.result.now c.strip-holds.new.self c.index_mut.ensures.value c.strip-holds.ensures.new)

pub returns-in-Some-clause-old : goal.returns-in-Some-clause-old
returns-in-Some-clause-old c =
    rw (← c.self.view_is)
    (c.strip-holds.ensures.old
    ∙ sym (ap (λ o. unwrap_or (option_map (λ (n : Node). n.holds) o) []) (node_found c.self.inside.entries.items c.deref.result.now c.deref.ensures.value c.args.serial c.in-Some.place c.in-Some.ensures c.index_mut.result.now c.index_mut.ensures.value)))

pub returns-in-None-clause-set : goal.returns-in-None-clause-set
returns-in-None-clause-set c = rw (← c.self.view_is) (unchanged bare c.self.inside.entries.items c.deref.result.now c.deref.ensures.value c.self.inside.next c.args.serial c.in-None.ensures)

pub returns-in-None-clause-old : goal.returns-in-None-clause-old
returns-in-None-clause-old c =
    rw (← c.self.view_is)
    (c.new.ensures ∙ sym (ap (λ o. unwrap_or (option_map (λ (n : Node). n.holds) o) []) (node_missing c.self.inside.entries.items c.deref.result.now c.deref.ensures.value c.args.serial c.in-None.ensures)))
