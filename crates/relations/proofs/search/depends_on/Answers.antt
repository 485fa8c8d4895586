use Rattle.std.proofs.Common.{◌∙◌}
use Rattle.relations.proofs.Directs.{ascending, there_found}
use Rattle.relations.proofs.Searching.{set_is_dependents}
use Rattle.relations.proofs.search.depends_on.Goals as goal

pub returns : goal.returns
returns c =
    let nodes = c.args.tree.now.nodes in
    let m = there_found nodes c.args.holder c.requires.there in
    c.contains_key.ensures
    ∙ (c.in_ok-found.ensures.set.kept.keys c.args.serial
    ∙ (c.in_ok-found.ensures.set.set c.args.serial
    ∙ set_is_dependents nodes c.args.relations.now c.args.holder (ascending 0 nodes c.in_ok-found.ensures.tree.ascends) m.0 m.1 c.args.serial c.requires.other))
