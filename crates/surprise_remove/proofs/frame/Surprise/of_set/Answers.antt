use Rattle.std.proofs.Common.{◌∙◌, ℕ, List, reverse, ap}
use Rattle.pnp_model.specs.Records.{Node, Stage}
use Rattle.pnp_model.specs.Surprises.{tell_on}
use Rattle.surprise_remove.proofs.Beginning.{before, of_set_is}
use Rattle.surprise_remove.proofs.frame.Surprise.of_set.Goals as goal

pub returns : goal.returns
returns c relations =
    let seen = c.node.view_is in
    let node = c.args.node.now in
    of_set_is c.args.tree.now.nodes relations node c.in_ok-path.path c.args.set c.in_ok-told.told c.in_ok-todo.todo c.node.inside.serial c.tell_next.new.self
    (c.in_ok-path.ensures ∙ ap (λ (n : Node). n.path) seen) (ap (λ (n : Node). n.serial) seen) c.in_ok-told.ensures c.in_ok-todo.ensures
    (c.tell_next.ensures
    ∙ ap (λ (b : List ℕ). tell_on (record (before node c.args.set c.in_ok-told.told) { target = c.node.inside.serial; path = c.in_ok-path.path; behind = reverse b; todo = c.in_ok-todo.todo; stage = Stage.Ending }) c.in_ok-todo.todo) c.new.ensures)
