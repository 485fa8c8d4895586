use Rattle.std.proofs.Common.{◌∙◌, ap}
use Rattle.pnp_model.specs.Records.{Node}
use Rattle.rebalance.proofs.Beginning.{of_wanted_is}
use Rattle.rebalance.proofs.frame.Rebalance.of_wanted.Goals as goal

pub returns : goal.returns
returns c =
    let seen = c.node.view_is in
    of_wanted_is c.args.wanted c.args.tree.now.nodes c.args.node.now c.in_ok-path.path c.node.inside.serial c.new.result c.in_ok-todo.todo c.new-2.result c.new-3.result c.ask_all.new.self
    (c.in_ok-path.ensures ∙ ap (λ (n : Node). n.path) seen) (ap (λ (n : Node). n.serial) seen) c.new.ensures c.in_ok-todo.ensures c.new-2.ensures c.new-3.ensures c.in_ok-ask_all.ensures.asks
