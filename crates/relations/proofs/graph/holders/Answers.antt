use Rattle.std.proofs.Common.{◌∙◌, ◌++◌, ap}
use Rattle.std.specs.List.{sum_by}
use Rattle.pnp_model.specs.Cores.{node_at}
use Rattle.relations.specs.Leaving.{parents_of}
use Rattle.relations.proofs.Graphs.{ends, every_taken, over_same}
use Rattle.relations.proofs.graph.holders.Goals as goal

pub returns : goal.returns
returns c f =
    let parents = parents_of (node_at c.args.serial c.args.tree.now.nodes) in
    let edges = c.joined-edge-items.result.now in
    ap (sum_by f) (every_taken edges c.loop-edge.edge-index c.loop-edge.found.items (parents ++ ends edges) c.loop-edge-test.false c.loop-edge.invariant)
    ∙ over_same c.args.relations.now c.args.serial parents edges c.joined-edge-items.ensures f
