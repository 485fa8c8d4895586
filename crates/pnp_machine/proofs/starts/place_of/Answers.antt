use Rattle.std.proofs.Common.{◌∙◌, rules}
use Rattle.std.proofs.lemmas.List.Sorted.{answers_always}
use Rattle.devnode_tree.proofs.Ascending.{search_place}
use Rattle.pnp_model.specs.Records.{Activity}
use Rattle.pnp_machine.proofs.Inserts.{ascends}
use Rattle.pnp_machine.proofs.starts.place_of.Goals as goal

pub returns : goal.returns
returns c =
    let facts = c.binary_search_by_key.ensures in
    let by_key = facts.position (λ (a : Activity). a.serial) (answers_always _ _ _ (λ f a r g called. search rules)) in
    c.ok.ensures.value
    ∙ search_place (λ (a : Activity). a.serial) c.args.works.now (ascends 0 c.args.works.now c.requires) c.args.serial _ facts.bound by_key
