use Rattle.std.proofs.Common.{◌∙◌, false, Some, option_map, ap, sym}
use Rattle.pnp_model.specs.Frames.{first_node}
use Rattle.pnp_model.specs.Records.{Job, Course}
use Rattle.pnp_model.specs.Records.Doing.{Does}
use Rattle.pnp_model.specs.Removals.{acts, settle}
use Rattle.operation_frame.proofs.Requests.{ok_then}
use Rattle.operation_frame.proofs.Stepping.{moves_so}
use Rattle.query_remove.specs.Stages.{stage_of, walk_at}
use Rattle.query_remove.specs.Parts.{SettlesFor}
use Rattle.query_remove.proofs.Moving.{over_so}
use Rattle.query_remove.proofs.frame.Removal.next.Goals as goal

pub returns-in-Settling-clause-mirrors : goal.returns-in-Settling-clause-mirrors
returns-in-Settling-clause-mirrors g c = c.settle.ensures.mirrors c.args.arbiters.now

pub returns-in-Settling-clause-removes : goal.returns-in-Settling-clause-removes
returns-in-Settling-clause-removes g c =
    let nodes = c.args.tree.now.nodes in
    let o = c.args.self.now in
    let handles = c.args.handles.now in
    let stage = ap (λ (r : Job). r.stage) (sym c.self.view_is) ∙ ap stage_of c.in-Settling.is in
    let none = ap (λ (r : Job). r.walk) (sym c.self.view_is) ∙ ap (λ s. walk_at s c.self.inside.walk.walk) c.in-Settling.is in
    ok_then (λ step. SettlesFor (first_node nodes o.todo) nodes o step c.settle.new.tree.nodes c.settle.new.self) _
    (λ step h.
    moves_so Course.Removing nodes c.settle.new.tree.nodes c.args.relations.now (g.R.Drivers.rows c.args.rack.now) false handles o c.settle.new.self step (λ d n. settle d o n) none (λ d n. ap (λ s. option_map (λ m. Does m) (acts d o handles s (Some n))) stage) h)
    c.settle.result c.settle.ensures.settles

pub returns-in_ok-end_line-in-Ending-clause-removes : goal.returns-in_ok-end_line-in-Ending-clause-removes
returns-in_ok-end_line-in-Ending-clause-removes g c =
    over_so c.args.tree.now.nodes c.args.relations.now (g.R.Drivers.rows c.args.rack.now) c.args.handles.now c.args.self.now c.in_ok-end_line-in-Ending.field-0 (ap (λ (r : Job). r.stage) (sym c.self.view_is) ∙ ap stage_of c.in-Ending.is)
    (ap (λ (r : Job). r.walk) (sym c.self.view_is) ∙ ap (λ s. walk_at s c.self.inside.walk.walk) c.in-Ending.is) c.in_ok-end_line-in-Ending.ensures
