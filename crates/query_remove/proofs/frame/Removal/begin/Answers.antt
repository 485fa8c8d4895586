use Rattle.std.proofs.Common.{◌∙◌, ap}
use Rattle.pnp_model.specs.Records.{Node}
use Rattle.operation_frame.proofs.Given.{own_there}
use Rattle.query_remove.specs.Stages.{kind_by}
use Rattle.query_remove.proofs.Beginning.{begun_is}
use Rattle.query_remove.proofs.Moving.{kind_is}
use Rattle.query_remove.proofs.frame.Removal.begin.Goals as goal

pub leaving-requires : goal.leaving-requires
leaving-requires c = own_there c.args.tree.now.nodes c.args.serial c.node.inside.serial c.at-node.result.now c.at-node.ensures.node (ap (λ (n : Node). n.serial) c.node.view_is)

pub returns : goal.returns
returns c =
    let seen = c.node.view_is in
    begun_is c.args.tree.now.nodes c.args.relations.now c.args.kind c.at-node.result.now (kind_by c.is_eject-ejects.result) (ap kind_by c.is_eject-ejects.ensures ∙ kind_is c.args.kind c.requires.order) c.args.serial c.in_ok-path.path c.in_ok-set.set
    c.node.inside.serial c.in_ok-removal.removal c.at-node.ensures.node (c.in_ok-path.ensures ∙ ap (λ (n : Node). n.path) seen) (ap (λ (n : Node). n.serial) seen) (rw c.in_ok-set.ensures c.in_ok-order.ensures) c.in_ok-removal.ensures
