use Rattle.std.proofs.Common.{◌∙◌, Some, option_map, ap, sym}
use Rattle.pnp_model.specs.Frames.{first_node}
use Rattle.pnp_model.specs.Records.{Job, Course}
use Rattle.pnp_model.specs.Records.Doing.{Does}
use Rattle.pnp_model.specs.Surprises.{acts, settle}
use Rattle.operation_frame.proofs.Requests.{ok_then}
use Rattle.operation_frame.proofs.Stepping.{moves_so}
use Rattle.surprise_remove.specs.Stages.{stage_of, walk_at}
use Rattle.surprise_remove.specs.Parts.{SettlesFor}
use Rattle.surprise_remove.proofs.frame.Surprise.proceed.Goals as goal

pub returns-in-Settling-clause-mirrors : goal.returns-in-Settling-clause-mirrors
returns-in-Settling-clause-mirrors g c = c.settle.ensures.mirrors c.args.arbiters.now

pub returns-in-Settling-clause-surprises : goal.returns-in-Settling-clause-surprises
returns-in-Settling-clause-surprises g c =
    let nodes = c.args.tree.now.nodes in
    let o = c.args.self.now in
    let stage = ap (λ (r : Job). r.stage) (sym c.self.view_is) ∙ ap stage_of c.in-Settling.is in
    let none = ap (λ (r : Job). r.walk) (sym c.self.view_is) ∙ ap (λ s. walk_at s c.self.inside.walk.walk) c.in-Settling.is in
    ok_then (λ step. SettlesFor (first_node nodes o.todo) nodes o c.args.in_world step c.settle.new.tree.nodes c.settle.new.self) _
    (λ step h handles.
    moves_so Course.Surprising nodes c.settle.new.tree.nodes c.args.relations.now (g.R.Drivers.rows c.args.rack.now) c.args.in_world handles o c.settle.new.self step (λ d n. settle d o n c.args.in_world) none
    (λ d n. ap (λ s. option_map (λ m. Does m) (acts d o c.args.in_world handles s (Some n))) stage) h)
    c.settle.result c.settle.ensures.settles
