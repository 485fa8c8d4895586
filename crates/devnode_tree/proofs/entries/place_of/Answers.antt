use Rattle.std.proofs.Common.{refl, sym, ap, ◌∙◌, subst}
use Rattle.std.proofs.lemmas.Bool.{ltb-true}
use Rattle.std.proofs.lemmas.Option.{slice_get_read}
use Rattle.devnode_tree.proofs.Ascending.{place_at}
use Rattle.devnode_tree.proofs.KeyedMaps.{map-twice}
use Rattle.devnode_tree.specs.Entries.{Entry}
use Rattle.devnode_tree.specs.declared.entry.Entry.TheInside.{Inside}
use Rattle.devnode_tree.specs.Trees.{Ascends}
use Rattle.pnp_model.specs.Records.{Node}
use Rattle.devnode_tree.proofs.entries.place_of.Goals as goal

pub returns-in-Some : goal.returns-in-Some
returns-in-Some c =
    let ascends = subst (Ascends 0) (map-twice (λ (n : Node). n.serial) (λ (e : Entry). e.node) c.args.entries.now) c.requires in
    let there = c.in-Some.ensures.lookup in
    let read = slice_get_read c.args.entries.now _ c.args.serial c.in-Some.entry.now refl (ltb-true _ _ (sym there.0)) there.1 in
    place_at (λ (e : Entry). e.node.serial) c.args.entries.now ascends _ c.args.serial c.in-Some.entry.now read
    (sym (ap (λ (e : Entry). e.node.serial) c.entry.view_is) ∙ sym (ap (λ (i : Inside). i.node.serial) c.entry-inside.view_is) ∙ c.if-entry-serial.true)
