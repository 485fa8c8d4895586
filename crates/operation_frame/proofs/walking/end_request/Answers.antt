use Rattle.std.proofs.Common.{subst, sym, ap}
use Rattle.pnp_labels.specs.declared.words.Minor.{Minor}
use Rattle.pnp_model.specs.Cores.{node_at}
use Rattle.devnode_tree.specs.Trees.{Tree}
use Rattle.operation_frame.specs.Walks.{EndedFor}
use Rattle.operation_frame.proofs.Ends.{ended_alone, stripped_is}
use Rattle.operation_frame.proofs.walking.end_request.Goals as goal

pub returns-in-Remove-clause-ended : goal.returns-in-Remove-clause-ended
returns-in-Remove-clause-ended c =
    let nodes = c.args.tree.now.nodes in
    let k = c.args.device.serial in
    subst (λ (m : Minor). EndedFor (node_at k nodes) m c.args.refused nodes c.args.relations.now c.strip.result c.strip.new.tree.nodes c.strip.new.relations) (sym c.in-Remove.is)
    (stripped_is k c.args.refused c.args.device.path nodes c.strip.new.tree.nodes c.args.relations.now c.strip.new.relations c.strip.result c.requires.path c.strip.ensures.label
    (ap (λ (t : Tree). t.nodes) c.strip.ensures.bare) c.strip.ensures.relations)

pub returns-in_default : goal.returns-in_default
returns-in_default c =
    record {
      ended =
          ended_alone (node_at c.args.device.serial c.args.tree.now.nodes) c.args.minor c.args.refused c.args.device.path c.args.tree.now.nodes c.end_walk.new.tree.nodes c.args.relations.now c.end_walk.result c.in_default.not-Remove
          c.requires.path c.end_walk.ensures.ended;
      next = c.end_walk.ensures.next;
      mirrors = c.end_walk.ensures.mirrors c.args.arbiters.now;
    }
