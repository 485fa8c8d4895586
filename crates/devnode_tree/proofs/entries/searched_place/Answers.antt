use Rattle.std.proofs.Common.{◌∙◌, subst, rules}
use Rattle.std.proofs.lemmas.List.Sorted.{answers_always}
use Rattle.devnode_tree.proofs.Ascending.{search_place}
use Rattle.devnode_tree.proofs.KeyedMaps.{map-twice}
use Rattle.devnode_tree.specs.Entries.{Entry}
use Rattle.devnode_tree.specs.Trees.{Ascends}
use Rattle.pnp_model.specs.Records.{Node}
use Rattle.devnode_tree.proofs.entries.searched_place.Goals as goal

pub returns : goal.returns
returns c =
    let facts = c.binary_search_by_key.ensures in
    let by_key = facts.position (λ (e : Entry). e.node.serial) (answers_always _ _ _ (λ f a r g called. search rules)) in
    let ascends = subst (Ascends 0) (map-twice (λ (n : Node). n.serial) (λ (e : Entry). e.node) c.args.entries.now) c.requires in
    c.ok.ensures.value ∙ search_place (λ (e : Entry). e.node.serial) c.args.entries.now ascends c.args.serial _ facts.bound by_key
