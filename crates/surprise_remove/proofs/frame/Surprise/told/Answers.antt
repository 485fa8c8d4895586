use Rattle.std.proofs.Common.{◌∙◌, ap}
use Rattle.pnp_model.specs.Frames.{rest}
use Rattle.pnp_model.specs.Records.{Job}
use Rattle.pnp_model.specs.Surprises.{tell_on}
use Rattle.surprise_remove.specs.contracts.frame.Surprise.{the_view}
use Rattle.surprise_remove.proofs.Moving.{tell_frame}
use Rattle.surprise_remove.proofs.frame.Surprise.told.Goals as goal

pub returns-clause-told : goal.returns-clause-told
returns-clause-told c =
    c.tell_next.ensures
    ∙ (tell_frame (the_view c.self.inside) c.drop_first.new.self c.drop_first.ensures
    ∙ ap (λ (o : Job). tell_on o (rest o.todo)) c.self.view_is)
