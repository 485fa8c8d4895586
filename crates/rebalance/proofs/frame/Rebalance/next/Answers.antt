use Rattle.std.proofs.Common.{ap, refl}
use Rattle.pnp_model.specs.Frames.{first_node}
use Rattle.pnp_model.specs.Rebalances.{failed, close}
use Rattle.pnp_model.specs.Records.{Job}
use Rattle.rebalance.specs.declared.frame.Stage.TheVariants as stages
use Rattle.rebalance.specs.declared.next.RebalanceStep.TheVariants as steps
use Rattle.operation_frame.specs.Steps.{MovesFor}
use Rattle.operation_frame.proofs.Requests.{ok_then}
use Rattle.rebalance.specs.Steps.{Moved}
use Rattle.rebalance.specs.Parts.{Moves}
use Rattle.rebalance.proofs.Acting.{acted, fails}
use Rattle.rebalance.proofs.frame.Rebalance.next.Goals as goal

pub returns-in_ok-label-in-Searching-clause-rebalances : goal.returns-in_ok-label-in-Searching-clause-rebalances
returns-in_ok-label-in-Searching-clause-rebalances g c =
    let nodes = c.args.tree.now.nodes in
    acted nodes c.args.arbiters.now (g.R.Drivers.rows c.args.rack.now) c.args.self.now c.args.budget (steps.Did c.in_ok-label-in-Searching.label) nodes c.look.new.self c.self.inside.stage stages.Searching c.self.inside.walk.walk
    (ap (λ (r : Job). r.stage) c.self.view_is) (ap (λ (r : Job). r.walk) c.self.view_is) c.in-Searching.is refl c.in_ok-label-in-Searching.ensures.searched

pub returns-in_ok-stick-in-Stuck-clause-rebalances : goal.returns-in_ok-stick-in-Stuck-clause-rebalances
returns-in_ok-stick-in-Stuck-clause-rebalances g c =
    acted c.args.tree.now.nodes c.args.arbiters.now (g.R.Drivers.rows c.args.rack.now) c.args.self.now c.args.budget (steps.Did c.in_ok-stick-in-Stuck.field-0) c.stick.new.tree.nodes c.stick.new.self c.self.inside.stage stages.Stuck c.self.inside.walk.walk
    (ap (λ (r : Job). r.stage) c.self.view_is) (ap (λ (r : Job). r.walk) c.self.view_is) c.in-Stuck.is refl (λ around m. c.in_ok-stick-in-Stuck.ensures.stuck around)

pub returns-in_ok-stick-in-Stuck-clause-mirrors : goal.returns-in_ok-stick-in-Stuck-clause-mirrors
returns-in_ok-stick-in-Stuck-clause-mirrors g c = c.stick.ensures.whole.mirrors c.args.arbiters.now

pub returns-in_ok-label-in-Committing-clause-rebalances : goal.returns-in_ok-label-in-Committing-clause-rebalances
returns-in_ok-label-in-Committing-clause-rebalances g c =
    acted c.args.tree.now.nodes c.args.arbiters.now (g.R.Drivers.rows c.args.rack.now) c.args.self.now c.args.budget (steps.Did c.in_ok-label-in-Committing.label) c.commit.new.tree.nodes c.commit.new.self c.self.inside.stage stages.Committing c.self.inside.walk.walk
    (ap (λ (r : Job). r.stage) c.self.view_is) (ap (λ (r : Job). r.walk) c.self.view_is) c.in-Committing.is refl (λ around m. c.in_ok-label-in-Committing.ensures.committed around)

pub returns-in-Failed-clause-mirrors : goal.returns-in-Failed-clause-mirrors
returns-in-Failed-clause-mirrors g c = c.fail.ensures.whole.mirrors c.args.arbiters.now

pub returns-in_default-clause-mirrors : goal.returns-in_default-clause-mirrors
returns-in_default-clause-mirrors g c = c.walk_on.ensures.whole.mirrors c.args.arbiters.now

pub returns-in-Failed-clause-rebalances : goal.returns-in-Failed-clause-rebalances
returns-in-Failed-clause-rebalances g c =
    let nodes = c.args.tree.now.nodes in
    let r = c.args.self.now in
    ok_then (λ step. MovesFor Moved (first_node nodes r.todo) (λ d n. failed d r n) nodes step c.fail.new.tree.nodes c.fail.new.self) _
    (λ step h. acted nodes c.args.arbiters.now (g.R.Drivers.rows c.args.rack.now) r c.args.budget step c.fail.new.tree.nodes c.fail.new.self c.self.inside.stage stages.Failed c.self.inside.walk.walk
    (ap (λ (r : Job). r.stage) c.self.view_is) (ap (λ (r : Job). r.walk) c.self.view_is) c.in-Failed.is refl (λ around m. fails nodes r c.args.budget step c.fail.new.tree.nodes c.fail.new.self h around)) c.fail.result c.fail.ensures.failed

pub returns-in-Ending-clause-rebalances : goal.returns-in-Ending-clause-rebalances
returns-in-Ending-clause-rebalances g c =
    let nodes = c.args.tree.now.nodes in
    let r = c.args.self.now in
    ok_then (λ step. Moves (λ d. close d r) nodes step nodes r) _
    (λ step h. acted nodes c.args.arbiters.now (g.R.Drivers.rows c.args.rack.now) r c.args.budget step nodes r c.self.inside.stage stages.Ending c.self.inside.walk.walk
    (ap (λ (r : Job). r.stage) c.self.view_is) (ap (λ (r : Job). r.walk) c.self.view_is) c.in-Ending.is refl (λ around m. h around)) c.close.result c.close.ensures
