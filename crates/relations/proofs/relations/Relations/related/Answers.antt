use Rattle.relations.proofs.Indexes.{related_is}
use Rattle.relations.proofs.relations.Relations.related.Goals as goal

pub returns : goal.returns
returns c =
    rw (c.has_edge.ensures, c.edges_from.ensures, c.deref.ensures.value, ← c.self.view_is)
    (related_is c.args.kind c.args.owner c.args.member c.self.inside.list.items c.self.inside.by_owner.items c.self.invariant.owned)
