-- What is kept of a plan that was found: it fits until it is used, and then the target holds its part.
use Rattle.std.specs.Prelude.{◌≡◌, ◌++◌, true, false, List, ◌∷◌, Option, Some, None, map}
use Rattle.resource_reqs.specs.Resources.{Res, Reqs, IsAssignment}
use Rattle.pnp_model.specs.Cores.{node_at}
use Rattle.pnp_model.specs.Frames.{held_by, is_beside}
use Rattle.pnp_model.specs.Keyed.{those}
use Rattle.pnp_model.specs.Rebalances.{movers, others, plan_of, reqs_of, reqs_or}
use Rattle.pnp_model.specs.Records.{Node, State, Job, Course, Stage, course_of}
use Rattle.pnp_laws.specs.Holdings.{has_plan, WholeAt}

-- what those that move require: the target what is wanted for it, where it is a change
abbrev pub moving_reqs : Job → List Node → List Reqs
moving_reqs r nodes = reqs_or r.wanted (reqs_of (node_at r.target nodes)) ∷ map (λ k. reqs_of (node_at k nodes)) (others r)

-- the found plan is an assignment for those that move, beside what is reserved and what all others hold
abbrev pub PlanFits : Job → List Res → List Node → Type 0
PlanFits r reserved nodes = IsAssignment (reserved ++ held_by (those (is_beside (movers r)) nodes)) (moving_reqs r nodes) (plan_of r.found)

abbrev pub StagePlan : Job → Stage → List Res → List Node → Type 0
StagePlan r Stage.Cancelling reserved nodes = has_plan r.found ≡ false
StagePlan r Stage.Stuck reserved nodes = has_plan r.found ≡ false
StagePlan r Stage.Stopping reserved nodes = PlanFits r reserved nodes
StagePlan r Stage.Committing reserved nodes = PlanFits r reserved nodes
StagePlan r Stage.Restarting reserved nodes = WholeAt r.target nodes
StagePlan r Stage.Failed reserved nodes = WholeAt r.target nodes
StagePlan r Stage.Ending reserved nodes = has_plan r.found ≡ true → WholeAt r.target nodes
StagePlan r _ reserved nodes = has_plan r.found ≡ false

abbrev pub PlanKeptIn : Course → Job → List Res → List Node → Type 0
PlanKeptIn Course.Rebalancing r reserved nodes = StagePlan r r.stage reserved nodes
PlanKeptIn _ r reserved nodes = Unit {0}

abbrev pub PlanKept : Option Job → List Res → List Node → Type 0
PlanKept None reserved nodes = Unit {0}
PlanKept (Some r) reserved nodes = PlanKeptIn (course_of r.kind) r reserved nodes

abbrev pub IsPlanned : State → Type 0
IsPlanned s = PlanKept s.operation s.core.reserved s.core.nodes
