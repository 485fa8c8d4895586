use Rattle.std.proofs.Common.{◌∙◌, slice_get, ap, sym}
use Rattle.pnp_model.specs.Records.{Job}
use Rattle.operation_frame.proofs.Requests.{ok_then}
use Rattle.surprise_remove.proofs.Deciding.{waits_so, finishes_so, settles_at}
use Rattle.surprise_remove.proofs.frame.Surprise.decide.Goals as goal

pub returns-then-stays-clause-surprises : goal.returns-then-stays-clause-surprises
returns-then-stays-clause-surprises g c =
    waits_so c.args.tree.now.nodes c.args.relations.now c.args.self.now c.args.in_world c.args.handles.now c.requires.stage c.requires.none c.requires.direct c.first.result
    (ap (λ (r : Job). slice_get r.todo 0) (sym c.self.view_is) ∙ c.first.ensures) c.requires.there (g.R.Drivers.rows c.args.rack.now) c.wait.new.self c.in_ok-wait.field-0 (sym c.stays.ensures ∙ c.if-stays.true) c.in_ok-wait.ensures.waits

pub proceed-finished-requires-clause-settles : goal.proceed-finished-requires-clause-settles
proceed-finished-requires-clause-settles g c =
    settles_at c.args.tree.now.nodes c.args.relations.now c.args.self.now c.args.in_world c.args.handles.now c.requires.stage c.requires.none c.requires.direct c.first.result
    (ap (λ (r : Job). slice_get r.todo 0) (sym c.self.view_is) ∙ c.first.ensures) c.requires.there c.begin_finish.new.self (sym c.stays.ensures ∙ c.if-stays.false) c.begin_finish.ensures c.requires.settles

pub returns-else-is_err-clause-surprises : goal.returns-else-is_err-clause-surprises
returns-else-is_err-clause-surprises g c =
    ok_then _ _
    (λ step h.
    finishes_so c.args.tree.now.nodes c.args.relations.now c.args.self.now c.args.in_world c.args.handles.now c.requires.stage c.requires.none c.requires.direct c.first.result
    (ap (λ (r : Job). slice_get r.todo 0) (sym c.self.view_is) ∙ c.first.ensures) c.requires.there (g.R.Drivers.rows c.args.rack.now) (g.R.Drivers.rows c.proceed-finished.new.rack) c.proceed-finished.new.tree.nodes c.proceed-finished.new.relations c.begin_finish.new.self c.proceed-finished.new.self step
    (sym c.stays.ensures ∙ c.if-stays.false) c.begin_finish.ensures (h c.args.handles.now))
    c.proceed-finished.result c.proceed-finished.ensures.surprises
