use Rattle.std.proofs.Common.{◌∙◌, Some, is_some, slice_get, sym, ap, subst}
use Rattle.pnp_model.specs.Cores.{node_at}
use Rattle.pnp_labels.specs.declared.words.Minor.{Minor}
use Rattle.pnp_model.specs.Records.{Job, Walk, Course}
use Rattle.operation_frame.specs.Walks.{EndedFor}
use Rattle.operation_frame.proofs.Requests.{ended_path, ended_same, walks_with}
use Rattle.operation_frame.proofs.Stepping.{asks_so, ended_so}
use Rattle.surprise_remove.specs.contracts.finish.Finish.{the_view}
use Rattle.surprise_remove.specs.declared.finish.Stage.{Stage}
use Rattle.surprise_remove.specs.FinishStages.{stage_of, todo_of, is_walking, walk_at, settled_at}
use Rattle.surprise_remove.proofs.FinishMoves.{removes_with, stands_so}
use Rattle.surprise_remove.proofs.finish.Finish.walk_on.Goals as goal

pub end_request-requires-clause-path : goal.end_request-requires-clause-path
end_request-requires-clause-path g c = ended_path (node_at c.args.serial c.args.tree.now.nodes) _ _ _ _ c.in-Ended.path c.in-Ended.refused (rw c.in-Ended.is at c.in_ok-label.ensures.passed)

pub returns-in-On-clause-finishes : goal.returns-in-On-clause-finishes
returns-in-On-clause-finishes g c =
    let o = c.args.self.now in
    let s = c.self.inside.stage in
    let w = c.self.inside.walk.walk in
    let w' = c.pass_on.new.walk.walk in
    let walking = ap (λ (r : Job). is_some r.walk) c.self.view_is ∙ c.requires.walking in
    λ handles.
    asks_so Course.Finishing c.args.tree.now.nodes c.args.relations.now (g.R.Drivers.rows c.args.rack.now) (g.R.Drivers.rows c.pass_on.new.rack) c.args.in_world handles o _ c.args.serial
    (ap (λ ks. slice_get ks 0) c.requires.todo) w w' (ap (λ (r : Job). r.walk) (sym c.self.view_is) ∙ walks_with (is_walking s) w w walking) c.in-On.label (rw c.in-On.is at c.in_ok-label.ensures.passed)
    (ap (λ v. record (the_view c.self.inside) { walk = v }) (walks_with (is_walking s) w w' walking) ∙ ap (λ (r : Job). record r { walk = Some w' }) c.self.view_is)

pub returns-in-Ended-clause-finishes : goal.returns-in-Ended-clause-finishes
returns-in-Ended-clause-finishes g c =
    let nodes = c.args.tree.now.nodes in
    let rs = c.args.relations.now in
    let k = c.args.serial in
    let o = c.args.self.now in
    let s = c.self.inside.stage in
    let w = c.self.inside.walk.walk in
    let refused = c.in-Ended.refused in
    let seen = c.self.view_is in
    let walking = ap (λ (r : Job). is_some r.walk) seen ∙ c.requires.walking in
    let passed = rw c.in-Ended.is at c.in_ok-label.ensures.passed in
    let minor = c.minor-minor.ensures ∙ ap (λ (v : Walk). v.minor) (ended_same (node_at k nodes) _ _ _ _ c.in-Ended.path refused passed).1 in
    let ended = subst (λ (m : Minor). EndedFor (node_at k nodes) m refused nodes rs c.end_request.result c.end_request.new.tree.nodes c.end_request.new.relations) minor c.end_request.ensures.ended in
    let becomes = settled_at nodes k (node_at k nodes) c.args.in_world in
    let new =
    ap (λ (t : Stage). record (the_view c.self.inside) { todo = todo_of t; stage = stage_of t; walk = walk_at t w }) c.settled-self-inside.ensures
    ∙ ap (λ (r : Job). record r { todo = todo_of becomes; stage = stage_of becomes; walk = walk_at becomes w }) seen in
    let stands = stands_so nodes o _ c.args.in_world refused k w c.requires.todo (ap (λ (r : Job). r.stage) (sym seen) ∙ removes_with s w walking) new in
    λ handles.
    ended_so Course.Finishing nodes c.end_request.new.tree.nodes rs c.end_request.new.relations (g.R.Drivers.rows c.args.rack.now) (g.R.Drivers.rows c.pass_on.new.rack) c.args.in_world handles o _ k
    (ap (λ ks. slice_get ks 0) c.requires.todo) w c.pass_on.new.walk.walk (ap (λ (r : Job). r.walk) (sym seen) ∙ walks_with (is_walking s) w w walking) c.end_request.result c.in-Ended.path refused passed ended stands
