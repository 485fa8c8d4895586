use Rattle.std.proofs.Common.{◌∙◌, ap}
use Rattle.pnp_model.specs.Records.{Job}
use Rattle.pnp_model.specs.Removals.{cancel_on}
use Rattle.query_remove.specs.contracts.frame.Removal.{the_view}
use Rattle.query_remove.proofs.Moving.{cancel_frame}
use Rattle.query_remove.proofs.frame.Removal.stay.Goals as goal

pub returns-clause-told : goal.returns-clause-told
returns-clause-told c =
    c.cancel_next.ensures
    ∙ (cancel_frame (the_view c.self.inside) c.in_ok-self-inside.field-0 c.self.inside.agreed c.in_ok-self-inside.ensures
    ∙ ap (λ (o : Job). cancel_on o o.agreed) c.self.view_is)
