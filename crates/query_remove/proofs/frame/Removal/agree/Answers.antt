use Rattle.std.proofs.Common.{◌∙◌, ◌∷◌, ap}
use Rattle.pnp_model.specs.Frames.{rest}
use Rattle.pnp_model.specs.Records.{Job}
use Rattle.pnp_model.specs.Removals.{ask_on}
use Rattle.query_remove.specs.contracts.frame.Removal.{the_view}
use Rattle.query_remove.proofs.Moving.{agree_frame}
use Rattle.query_remove.proofs.frame.Removal.agree.Goals as goal

pub returns-clause-agreed : goal.returns-clause-agreed
returns-clause-agreed c =
    let nodes = c.args.tree.now.nodes in
    let k = c.args.serial in
    c.ask_next.ensures
    ∙ (agree_frame nodes (the_view c.self.inside) k c.push_front.new.self c.drop_first.new.self c.in_ok-push_front.ensures.pushed c.drop_first.ensures
    ∙ ap (λ (o : Job). ask_on nodes (record o { agreed = k ∷ o.agreed }) (rest o.todo)) c.self.view_is)
