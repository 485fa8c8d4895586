use Rattle.std.proofs.Common.{Some, [], ◌∷◌, ap}
use Rattle.pnp_model.specs.Cores.{node_at}
use Rattle.pnp_model.specs.Records.{Job, Stage}
use Rattle.device_stack.specs.Standing.{Standing}
use Rattle.relations.specs.Leaving.{base}
use Rattle.surprise_remove.proofs.FinishMoves.{over_is, ready_there, asks_first, taken_is}
use Rattle.surprise_remove.proofs.finish.Finish.take.Goals as goal

pub returns-in_default-clause-takes : goal.returns-in_default-clause-takes
returns-in_default-clause-takes g c =
    over_is c.args.tree.now.nodes c.args.relations.now (g.R.Drivers.rows c.args.rack.now) c.args.self.now c.args.handles.now c.requires.stage c.requires.none c.in_ok-end_line.field-0 c.in_ok-end_line.ensures c.in_default.ensures.device

pub pass_on-requires-clause-there : goal.pass_on-requires-clause-there
pass_on-requires-clause-there g c =
    let nodes = c.args.tree.now.nodes in
    let around = base nodes c.args.relations.now in
    ready_there around c.args.handles.now (node_at c.in-Some.serial nodes) (c.in-Some.ensures.ready around)

pub unreachable-requires : goal.unreachable-requires
unreachable-requires g c =
    let nodes = c.args.tree.now.nodes in
    let around = base nodes c.args.relations.now in
    asks_first around c.args.handles.now (node_at c.in-Some.serial nodes) (c.in-Some.ensures.ready around) _ _ c.in-Ended.path c.in-Ended.refused _ _ (ap (λ (s : Standing). s.walk) c.begin-walk.ensures)
    ((rw c.in-Ended.is at c.in_ok-label.ensures.passed) around)

pub returns-clause-takes : goal.returns-clause-takes
returns-clause-takes g c =
    let k = c.in-Some.serial in
    taken_is c.args.tree.now.nodes c.args.relations.now (g.R.Drivers.rows c.args.rack.now) (g.R.Drivers.rows c.pass_on.new.rack) c.args.self.now _ c.args.handles.now c.requires.stage c.requires.none k c.begin-walk.result.walk c.pass_on.new.walk.walk
    c.in-On.label c.in-Some.ensures.device (ap (λ (s : Standing). s.walk) c.begin-walk.ensures) (rw c.in-On.is at c.in_ok-label.ensures.passed)
    (ap (λ (r : Job). record r { todo = k ∷ []; stage = Stage.Removing; walk = Some c.pass_on.new.walk.walk }) c.self.view_is)
