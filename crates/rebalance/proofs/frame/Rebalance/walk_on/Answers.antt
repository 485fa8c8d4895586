use Rattle.std.proofs.Common.{◌∙◌, [], Option, Some, is_some, option_map, slice_get, ap, sym, subst}
use Rattle.pnp_labels.specs.declared.words.Minor.{Minor}
use Rattle.pnp_model.specs.Cores.{core_of, node_at}
use Rattle.pnp_model.specs.Records.{Course, Job, Walk}
use Rattle.pnp_laws.specs.Kept.{IsOwn, asked_in}
use Rattle.operation_frame.specs.Walks.{EndsFor}
use Rattle.operation_frame.proofs.Requests.{on_err, ended_path, ended_same}
use Rattle.rebalance.specs.Stages.{stage_of}
use Rattle.rebalance.specs.contracts.frame.Rebalance.{the_view}
use Rattle.rebalance.proofs.Moving.{own_on, walk_is, walked_minor}
use Rattle.rebalance.proofs.Stepping.{goes_on, ends_so}
use Rattle.rebalance.proofs.frame.Rebalance.walk_on.Goals as goal

pub invariant_of-self : goal.invariant_of-self
invariant_of-self g c =
    own_on (asked_in Course.Rebalancing (stage_of c.self.inside.stage)) c.self.inside.walk.walk c.pass_on.new.walk.walk
    (walked_minor (node_at c.first-serial.result c.args.tree.now.nodes) _ _ _ _ c.in-On.label ((rw c.in-On.is at c.in_ok-label.ensures.passed) (core_of [] [] [] []))) c.self.invariant

pub end_request-requires-clause-path : goal.end_request-requires-clause-path
end_request-requires-clause-path g c = ended_path (node_at c.first-serial.result c.args.tree.now.nodes) _ _ _ _ c.in-Ended.path c.in-Ended.refused (rw c.in-Ended.is at c.in_ok-label.ensures.passed)

pub end_request-requires-clause-asked : goal.end_request-requires-clause-asked
end_request-requires-clause-asked g c =
    let w = c.self.inside.walk.walk in
    let same = (ended_same (node_at c.first-serial.result c.args.tree.now.nodes) _ _ _ _ c.in-Ended.path c.in-Ended.refused (rw c.in-Ended.is at c.in_ok-label.ensures.passed)).1 in
    let walk = sym (ap (λ (r : Job). r.walk) c.self.view_is) ∙ walk_is c.self.inside.stage w w (ap (λ (r : Job). is_some r.walk) c.self.view_is ∙ c.requires.walking) in
    ap (option_map (λ (v : Walk). v.minor)) walk ∙ ap (λ (m : Minor). Some m) (sym (c.minor.ensures ∙ ap (λ (v : Walk). v.minor) same))

pub returns-in_err-label-in-Ended-clause-rack : goal.returns-in_err-label-in-Ended-clause-rack
returns-in_err-label-in-Ended-clause-rack g c =
    on_err _ c.from_residual-in_err-label-in-Ended.result (ended_same (node_at c.first-serial.result c.args.tree.now.nodes) _ _ _ _ c.in-Ended.path c.in-Ended.refused (rw c.in-Ended.is at c.in_ok-label.ensures.passed)).0

pub returns-in-On-clause-rebalances : goal.returns-in-On-clause-rebalances
returns-in-On-clause-rebalances g c budget =
    let s = c.self.inside.stage in
    let w = c.self.inside.walk.walk in
    let w2 = c.pass_on.new.walk.walk in
    let there = ap (λ (r : Job). is_some r.walk) c.self.view_is ∙ c.requires.walking in
    goes_on c.args.tree.now.nodes (g.R.Drivers.rows c.args.rack.now) (g.R.Drivers.rows c.pass_on.new.rack) c.args.self.now c.first-serial.result w w2
    (ap (λ (r : Job). slice_get r.todo 0) (sym c.self.view_is) ∙ c.first-serial.ensures) (sym (ap (λ (r : Job). r.walk) c.self.view_is) ∙ walk_is s w w there) c.in-On.label _ budget (rw c.in-On.is at c.in_ok-label.ensures.passed)
    (ap (λ (v : Option Walk). record (the_view c.self.inside) { walk = v }) (walk_is s w w2 there) ∙ ap (λ (r : Job). record r { walk = Some w2 }) c.self.view_is)

pub returns-in_ok-label-in-Ended-clause-rebalances : goal.returns-in_ok-label-in-Ended-clause-rebalances
returns-in_ok-label-in-Ended-clause-rebalances g c budget =
    let s = c.self.inside.stage in
    let w = c.self.inside.walk.walk in
    let there = ap (λ (r : Job). is_some r.walk) c.self.view_is ∙ c.requires.walking in
    let h = rw c.in-Ended.is at c.in_ok-label.ensures.passed in
    let x = node_at c.first-serial.result c.args.tree.now.nodes in
    let same = (ended_same x _ _ _ _ c.in-Ended.path c.in-Ended.refused h).1 in
    ends_so c.args.tree.now.nodes (g.R.Drivers.rows c.args.rack.now) (g.R.Drivers.rows c.pass_on.new.rack) c.args.self.now c.first-serial.result w c.pass_on.new.walk.walk
    (ap (λ (r : Job). slice_get r.todo 0) (sym c.self.view_is) ∙ c.first-serial.ensures) (sym (ap (λ (r : Job). r.walk) c.self.view_is) ∙ walk_is s w w there) c.in_ok-label-in-Ended.label c.end_request.new.self budget
    (subst (λ (r : Job). IsOwn r.walk (asked_in Course.Rebalancing r.stage)) c.self.view_is c.self.invariant) c.in-Ended.path c.in-Ended.refused c.end_request.new.tree.nodes h
    (ended_path x _ _ _ _ c.in-Ended.path c.in-Ended.refused h)
    (subst (λ (m : Minor). EndsFor x m c.in-Ended.refused c.in-Ended.path c.args.tree.now.nodes c.in_ok-label-in-Ended.label c.end_request.new.tree.nodes) (c.minor.ensures ∙ ap (λ (v : Walk). v.minor) same) c.in_ok-label-in-Ended.ensures.ended)
    c.in_ok-label-in-Ended.ensures.stands
