use Rattle.relations.specs.Edges.{to_member}
use Rattle.relations.proofs.Indexes.{edges_of}
use Rattle.relations.proofs.relations.Relations.owned.Goals as goal

pub returns : goal.returns
returns c =
    rw (c.edges_from.ensures, c.deref.ensures.value, ← c.self.view_is)
    (edges_of to_member c.args.owner c.self.inside.list.items c.self.inside.by_owner.items c.self.invariant.owned)
