use Rattle.std.proofs.Common.{refl, ◌∙◌, ap, sym, option_map}
use Rattle.std.specs.Option.{unwrap_or}
use Rattle.pnp_model.specs.Cores.{with_holds}
use Rattle.pnp_model.specs.Records.{Node}
use Rattle.devnode_tree.proofs.Changes.{kept_set, births_set, seen_set, unchanged}
use Rattle.devnode_tree.proofs.Lowering.{quiet_set}
use Rattle.devnode_tree.proofs.Keeping.{keeps_holds}
use Rattle.devnode_tree.proofs.Lookups.{node_found, node_missing}
use Rattle.devnode_tree.proofs.tree.Tree.swap_holds.Goals as goal

pub invariant_of-self : goal.invariant_of-self
invariant_of-self c = record {
  kept = kept_set (with_holds c.args.holds) (keeps_holds c.args.holds) c.self.inside.entries.items c.deref.result.now c.deref.ensures.value c.self.inside.next c.args.serial c.in-Some.place c.in-Some.ensures c.index_mut.result.now c.swap_holds.new.self c.index_mut.ensures.value c.swap_holds.ensures.new _ c.self.invariant.kept;
  births_are = births_set (with_holds c.args.holds) (keeps_holds c.args.holds) c.self.inside.entries.items c.deref.result.now c.deref.ensures.value c.self.inside.next c.args.serial c.in-Some.place c.in-Some.ensures c.index_mut.result.now c.swap_holds.new.self c.index_mut.ensures.value c.swap_holds.ensures.new _ c.self.invariant.births_are;
  bottoms_are = quiet_set (with_holds c.args.holds) (keeps_holds c.args.holds) c.self.inside.entries.items c.deref.result.now c.deref.ensures.value c.self.inside.next c.args.serial c.in-Some.place c.in-Some.ensures c.index_mut.result.now c.swap_holds.new.self c.index_mut.ensures.value c.swap_holds.ensures.new c.self.inside.lowest c.self.invariant.bottoms_are (λ x. refl) (λ x. refl);
}

pub returns-in-Some-clause-set : goal.returns-in-Some-clause-set
returns-in-Some-clause-set c = rw (← c.self.view_is) (seen_set (with_holds c.args.holds) (keeps_holds c.args.holds) c.self.inside.entries.items c.deref.result.now c.deref.ensures.value c.self.inside.next c.args.serial c.in-Some.place c.in-Some.ensures c.index_mut.result.now c.swap_holds.new.self c.index_mut.ensures.value c.swap_holds.ensures.new)

pub returns-in-Some-clause-old : goal.returns-in-Some-clause-old
returns-in-Some-clause-old c =
    rw (← c.self.view_is)
    (c.swap_holds.ensures.old
    ∙ sym (ap (λ o. unwrap_or (option_map (λ (n : Node). n.holds) o) c.args.holds) (node_found c.self.inside.entries.items c.deref.result.now c.deref.ensures.value c.args.serial c.in-Some.place c.in-Some.ensures c.index_mut.result.now c.index_mut.ensures.value)))

pub returns-in-None-clause-set : goal.returns-in-None-clause-set
returns-in-None-clause-set c = rw (← c.self.view_is) (unchanged (with_holds c.args.holds) c.self.inside.entries.items c.deref.result.now c.deref.ensures.value c.self.inside.next c.args.serial c.in-None.ensures)

pub returns-in-None-clause-old : goal.returns-in-None-clause-old
returns-in-None-clause-old c =
    rw (← c.self.view_is)
    (sym (ap (λ o. unwrap_or (option_map (λ (n : Node). n.holds) o) c.args.holds) (node_missing c.self.inside.entries.items c.deref.result.now c.deref.ensures.value c.args.serial c.in-None.ensures)))
