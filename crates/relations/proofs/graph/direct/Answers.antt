use Rattle.std.proofs.Common.{◌∙◌, ◌++◌, ap}
use Rattle.std.specs.List.{sum_by}
use Rattle.pnp_model.specs.Keyed.{those}
use Rattle.devnode_tree.specs.Entries.{child_serials}
use Rattle.relations.specs.Leaving.{is_there}
use Rattle.relations.proofs.Graphs.{ends, all_taken, below_same}
use Rattle.relations.proofs.graph.direct.Goals as goal

pub returns : goal.returns
returns c f =
    let nodes = c.args.tree.now.nodes in
    let kids = child_serials nodes c.args.serial in
    let edges = c.owned-edge-items.result.now in
    ap (sum_by f) (all_taken (is_there nodes) edges c.loop-edge.edge-index c.loop-edge.found.items (kids ++ those (is_there nodes) (ends edges)) c.loop-edge-test.false c.loop-edge.invariant)
    ∙ below_same nodes c.args.relations.now c.args.serial kids edges c.owned-edge-items.ensures f
