use Rattle.relations.specs.Edges.{to_owner}
use Rattle.relations.proofs.Indexes.{edges_of}
use Rattle.relations.proofs.relations.Relations.joined.Goals as goal

pub returns : goal.returns
returns c =
    rw (c.edges_from.ensures, c.deref.ensures.value, ← c.self.view_is)
    (edges_of to_owner c.args.member c.self.inside.list.items c.self.inside.by_member.items c.self.invariant.joined)
