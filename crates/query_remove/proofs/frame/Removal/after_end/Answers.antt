use Rattle.std.proofs.Common.{◌∙◌, Some, is_some, ap, sym}
use Rattle.pnp_model.specs.Jobs.{stands}
use Rattle.pnp_model.specs.Records as Records
use Rattle.pnp_model.specs.Records.{Job}
use Rattle.operation_frame.proofs.Requests.{ok_then}
use Rattle.query_remove.specs.Stages.{stage_of}
use Rattle.query_remove.proofs.Moving.{only_removing, stands_so}
use Rattle.query_remove.proofs.frame.Removal.after_end.Goals as goal

pub returns-in-Asking-clause-stands : goal.returns-in-Asking-clause-stands
returns-in-Asking-clause-stands c =
    let stage = ap (λ (r : Job). r.stage) (sym c.self.view_is) ∙ ap stage_of c.in-Asking.is in
    ok_then _ _ (λ done h. stands_so Records.Stage.Asking c.args.tree.now.nodes c.args.serial c.args.self.now c.answered.new.self c.args.refused stage (λ around n own. ap Some (sym (h around n own)))) c.answered.result c.answered.ensures.answered

pub returns-in-TakingBack-clause-stands : goal.returns-in-TakingBack-clause-stands
returns-in-TakingBack-clause-stands c =
    let stage = ap (λ (r : Job). r.stage) (sym c.self.view_is) ∙ ap stage_of c.in-TakingBack.is in
    ok_then _ _ (λ done h. stands_so Records.Stage.TakingBack c.args.tree.now.nodes c.args.serial c.args.self.now c.stay.new.self c.args.refused stage (λ around n own. ap Some (sym h))) c.stay.result c.stay.ensures.told

pub returns-in-Cancelling-clause-stands : goal.returns-in-Cancelling-clause-stands
returns-in-Cancelling-clause-stands c =
    let stage = ap (λ (r : Job). r.stage) (sym c.self.view_is) ∙ ap stage_of c.in-Cancelling.is in
    stands_so Records.Stage.Cancelling c.args.tree.now.nodes c.args.serial c.args.self.now c.cancel.new.self c.args.refused stage (λ around n own. ap Some (sym c.cancel.ensures))

pub returns-in_default-clause-stands : goal.returns-in_default-clause-stands
returns-in_default-clause-stands c =
    let seen = c.self.view_is in
    let only = only_removing c.self.inside.stage c.self.inside.walk.walk c.in_default.not-Asking c.in_default.not-TakingBack c.in_default.not-Cancelling (ap (λ (r : Job). is_some r.walk) seen ∙ c.requires.walking) in
    let stage = ap (λ (r : Job). r.stage) (sym seen) ∙ ap stage_of only in
    stands_so Records.Stage.Removing c.args.tree.now.nodes c.args.serial c.args.self.now _ c.args.refused stage (λ around n own. ap (λ (r : Job). Some (stands r r.todo Records.Stage.Settling)) (sym seen))
