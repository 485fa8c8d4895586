use Rattle.std.proofs.Common.{◌∙◌, ap}
use Rattle.pnp_model.specs.Records.{Node}
use Rattle.query_remove.specs.Stages.{kind_by}
use Rattle.query_remove.proofs.Beginning.{of_set_is}
use Rattle.query_remove.proofs.frame.Removal.of_set.Goals as goal

pub returns : goal.returns
returns c =
    let seen = c.node.view_is in
    of_set_is c.args.tree.now.nodes c.args.relations.now (kind_by c.args.ejects) c.args.node.now c.in_ok-path.path c.args.set c.in_ok-ejecting.ejecting c.in_ok-todo.todo _ _ c.node.inside.serial c.ask_next.new.self
    (c.in_ok-path.ensures ∙ ap (λ (n : Node). n.path) seen) (ap (λ (n : Node). n.serial) seen) c.in_ok-ejecting.ensures c.in_ok-todo.ensures c.new.ensures c.new-2.ensures c.ask_next.ensures
