use Rattle.std.proofs.Common.{◌∙◌, false, Some, is_some, slice_get, ap, sym, subst}
use Rattle.pnp_model.specs.Cores.{node_at}
use Rattle.pnp_labels.specs.declared.words.Minor.{Minor}
use Rattle.pnp_model.specs.Records.{Job, Walk, Course}
use Rattle.operation_frame.specs.Walks.{EndedFor}
use Rattle.operation_frame.proofs.Requests.{on_err, ended_path, ended_same, walks_with}
use Rattle.operation_frame.proofs.Stepping.{asks_so, ended_so}
use Rattle.query_remove.specs.contracts.frame.Removal.{the_view}
use Rattle.query_remove.specs.Stages.{is_walking}
use Rattle.query_remove.proofs.frame.Removal.walk_on.Goals as goal

pub end_request-requires-clause-path : goal.end_request-requires-clause-path
end_request-requires-clause-path g c = ended_path (node_at c.first-serial.result c.args.tree.now.nodes) _ _ _ _ c.in-Ended.path c.in-Ended.refused (rw c.in-Ended.is at c.in_ok-path.ensures.passed)

pub returns-in-On-clause-removes : goal.returns-in-On-clause-removes
returns-in-On-clause-removes g c =
    let o = c.args.self.now in
    let s = c.self.inside.stage in
    let w = c.self.inside.walk.walk in
    let w' = c.pass_on.new.walk.walk in
    let walking = ap (λ (r : Job). is_some r.walk) c.self.view_is ∙ c.requires.walking in
    λ handles.
    asks_so Course.Removing c.args.tree.now.nodes c.args.relations.now (g.R.Drivers.rows c.args.rack.now) (g.R.Drivers.rows c.pass_on.new.rack) false handles o _ c.first-serial.result
    (ap (λ (r : Job). slice_get r.todo 0) (sym c.self.view_is) ∙ c.first-serial.ensures) w w' (ap (λ (r : Job). r.walk) (sym c.self.view_is) ∙ walks_with (is_walking s) w w walking) c.in-On.label (rw c.in-On.is at c.in_ok-path.ensures.passed)
    (ap (λ v. record (the_view c.self.inside) { walk = v }) (walks_with (is_walking s) w w' walking) ∙ ap (λ (r : Job). record r { walk = Some w' }) c.self.view_is)

pub returns-in_err-after_end-in-Ended-clause-rack : goal.returns-in_err-after_end-in-Ended-clause-rack
returns-in_err-after_end-in-Ended-clause-rack g c =
    on_err _ c.from_residual-in_err-after_end-in-Ended.result (ended_same (node_at c.first-serial.result c.args.tree.now.nodes) _ _ _ _ c.in-Ended.path c.in-Ended.refused (rw c.in-Ended.is at c.in_ok-path.ensures.passed)).0

pub returns-in_ok-after_end-in-Ended-clause-removes : goal.returns-in_ok-after_end-in-Ended-clause-removes
returns-in_ok-after_end-in-Ended-clause-removes g c =
    let nodes = c.args.tree.now.nodes in
    let rs = c.args.relations.now in
    let o = c.args.self.now in
    let k = c.first-serial.result in
    let s = c.self.inside.stage in
    let w = c.self.inside.walk.walk in
    let refused = c.in-Ended.refused in
    let passed = rw c.in-Ended.is at c.in_ok-path.ensures.passed in
    let minor = c.minor-minor.ensures ∙ ap (λ (v : Walk). v.minor) (ended_same (node_at k nodes) _ _ _ _ c.in-Ended.path refused passed).1 in
    let ended = subst (λ (m : Minor). EndedFor (node_at k nodes) m refused nodes rs c.end_request.result c.end_request.new.tree.nodes c.end_request.new.relations) minor c.end_request.ensures.ended in
    λ handles.
    ended_so Course.Removing nodes c.end_request.new.tree.nodes rs c.end_request.new.relations (g.R.Drivers.rows c.args.rack.now) (g.R.Drivers.rows c.pass_on.new.rack) false handles o c.after_end.new.self k
    (ap (λ (r : Job). slice_get r.todo 0) (sym c.self.view_is) ∙ c.first-serial.ensures) w c.pass_on.new.walk.walk (ap (λ (r : Job). r.walk) (sym c.self.view_is) ∙ walks_with (is_walking s) w w (ap (λ (r : Job). is_some r.walk) c.self.view_is ∙ c.requires.walking))
    c.end_request.result c.in-Ended.path refused passed ended c.in_ok-after_end-in-Ended.ensures.stands
