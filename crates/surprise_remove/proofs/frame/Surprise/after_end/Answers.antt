use Rattle.std.proofs.Common.{◌∙◌, Some, is_some, ap, sym}
use Rattle.pnp_model.specs.Jobs.{stands}
use Rattle.pnp_model.specs.Records as Records
use Rattle.pnp_model.specs.Records.{Job}
use Rattle.pnp_model.specs.Surprises.{after_end}
use Rattle.operation_frame.proofs.Requests.{ok_then}
use Rattle.surprise_remove.specs.Stages.{stage_of}
use Rattle.surprise_remove.proofs.Moving.{only_removing}
use Rattle.surprise_remove.proofs.frame.Surprise.after_end.Goals as goal

pub returns-in-Telling-clause-stands : goal.returns-in-Telling-clause-stands
returns-in-Telling-clause-stands c =
    let o = c.args.self.now in
    let stage = ap (λ (r : Job). r.stage) (sym c.self.view_is) ∙ ap stage_of c.in-Telling.is in
    ok_then _ _ (λ done h. ap (after_end o) stage ∙ ap Some (sym h)) c.told.result c.told.ensures.told

pub returns-in_default-clause-stands : goal.returns-in_default-clause-stands
returns-in_default-clause-stands c =
    let seen = c.self.view_is in
    let only = only_removing c.self.inside.stage c.self.inside.walk.walk c.in_default.not-Telling (ap (λ (r : Job). is_some r.walk) seen ∙ c.requires.walking) in
    ap (after_end c.args.self.now) (ap (λ (r : Job). r.stage) (sym seen) ∙ ap stage_of only) ∙ ap (λ (r : Job). Some (stands r r.todo Records.Stage.Settling)) (sym seen)
