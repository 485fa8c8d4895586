use Rattle.std.proofs.Common.{◌∙◌, ap}
use Rattle.pnp_labels.specs.declared.words.Minor.{Minor}
use Rattle.pnp_model.specs.Records.{Job}
use Rattle.pnp_model.specs.Removals.{finish_on}
use Rattle.pnp_model.specs.Walks.{walk_of}
use Rattle.device_stack.specs.Standing.{Standing}
use Rattle.query_remove.specs.contracts.frame.Removal.{the_view}
use Rattle.query_remove.specs.declared.frame.Stage.{Stage}
use Rattle.query_remove.specs.Stages.{stage_of, walk_at, finishing}
use Rattle.query_remove.proofs.Moving.{finish_is}
use Rattle.query_remove.proofs.frame.Removal.finish_next.Goals as goal

pub returns : goal.returns
returns c =
    let nodes = c.args.tree.now.nodes in
    let o = the_view c.self.inside in
    ap (λ (s : Standing). record o { stage = stage_of c.finishing-self-inside.result; walk = walk_at c.finishing-self-inside.result s.walk }) c.begin-self-inside.ensures
    ∙ (ap (λ (t : Stage). record o { stage = stage_of t; walk = walk_at t (walk_of Minor.Remove) }) (c.finishing-self-inside.ensures ∙ ap finishing c.finish_of.ensures)
    ∙ (finish_is nodes o o.todo ∙ ap (λ (o : Job). finish_on nodes o o.todo) c.self.view_is))
