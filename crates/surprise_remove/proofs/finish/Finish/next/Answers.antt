use Rattle.std.proofs.Common.{◌∙◌, sym, ap}
use Rattle.pnp_model.specs.Cores.{node_at}
use Rattle.pnp_model.specs.Finishes.{leave, hold}
use Rattle.pnp_model.specs.Records.{Job}
use Rattle.operation_frame.specs.Steps.{Moved, MovesFor}
use Rattle.operation_frame.proofs.Requests.{ok_then}
use Rattle.surprise_remove.specs.FinishStages.{stage_of, todo_of, walk_at}
use Rattle.surprise_remove.proofs.FinishMoves.{leaves_so, holds_so}
use Rattle.surprise_remove.proofs.finish.Finish.next.Goals as goal

pub returns-in-Leaving-clause-mirrors : goal.returns-in-Leaving-clause-mirrors
returns-in-Leaving-clause-mirrors g c = c.leave.ensures.mirrors c.args.arbiters.now

pub returns-in-Holding-clause-mirrors : goal.returns-in-Holding-clause-mirrors
returns-in-Holding-clause-mirrors g c = c.hold.ensures.mirrors c.args.arbiters.now

pub returns-in-Leaving-clause-finishes : goal.returns-in-Leaving-clause-finishes
returns-in-Leaving-clause-finishes g c =
    let nodes = c.args.tree.now.nodes in
    let f = c.args.self.now in
    let k = c.in-Leaving.serial in
    let todo = ap (λ (r : Job). r.todo) (sym c.self.view_is) ∙ ap todo_of c.in-Leaving.is in
    let stage = ap (λ (r : Job). r.stage) (sym c.self.view_is) ∙ ap stage_of c.in-Leaving.is in
    let none = ap (λ (r : Job). r.walk) (sym c.self.view_is) ∙ ap (λ s. walk_at s c.self.inside.walk.walk) c.in-Leaving.is in
    ok_then (λ step. MovesFor Moved (node_at k nodes) (λ d n. leave d f n) nodes step c.leave.new.tree.nodes c.leave.new.self) _
    (λ step h. leaves_so nodes c.leave.new.tree.nodes c.args.relations.now (g.R.Drivers.rows c.args.rack.now) f c.leave.new.self c.args.in_world c.args.handles.now k todo none step stage h) c.leave.result c.leave.ensures.moves

pub returns-in-Holding-clause-finishes : goal.returns-in-Holding-clause-finishes
returns-in-Holding-clause-finishes g c =
    let nodes = c.args.tree.now.nodes in
    let f = c.args.self.now in
    let k = c.in-Holding.serial in
    let todo = ap (λ (r : Job). r.todo) (sym c.self.view_is) ∙ ap todo_of c.in-Holding.is in
    let stage = ap (λ (r : Job). r.stage) (sym c.self.view_is) ∙ ap stage_of c.in-Holding.is in
    let none = ap (λ (r : Job). r.walk) (sym c.self.view_is) ∙ ap (λ s. walk_at s c.self.inside.walk.walk) c.in-Holding.is in
    ok_then (λ step. MovesFor Moved (node_at k nodes) (λ d n. hold d f n) nodes step c.hold.new.tree.nodes c.hold.new.self) _
    (λ step h. holds_so nodes c.hold.new.tree.nodes c.args.relations.now (g.R.Drivers.rows c.args.rack.now) f c.hold.new.self c.args.in_world c.args.handles.now k todo none step stage h) c.hold.result c.hold.ensures.moves
