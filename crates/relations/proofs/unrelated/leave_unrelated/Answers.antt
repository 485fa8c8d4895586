use Rattle.relations.proofs.Directs.{ascending, there_found}
use Rattle.relations.proofs.Falls.{falls_leaving}
use Rattle.relations.proofs.unrelated.leave_unrelated.Goals as goal

pub returns : goal.returns
returns c =
    let nodes = c.args.tree.now.nodes in
    let g = ascending 0 nodes c.in_ok-found.ensures.tree.ascends in
    let m = there_found nodes c.args.target c.requires in
    falls_leaving nodes _ c.in_ok-found.ensures.tree.parents c.args.target g m.0 m.1 c.in_ok-found.found.items c.in_ok-found.ensures.all c.falling.result c.falling.ensures.falls c.falling.ensures.same
