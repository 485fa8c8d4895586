-- One step of a rebalance, or of a change, as the machine has it.
use Rattle.std.specs.Prelude.{ℕ, Bool, List, Option, Some, None, IsSome}
use Rattle.resource_reqs.specs.Spelling.{IsAnswer}
use Rattle.pnp_model.specs.Frames.{first_node}
use Rattle.pnp_model.specs.Records.{Node, Core, Driver, Doing, Found, Handle, Walk, Job, Course, Stage}
use Rattle.pnp_model.specs.Records.Doing.{Does, Searches}
use Rattle.pnp_model.specs.Cores.{set_rack}
use Rattle.pnp_model.specs.Jobs.{JobMove, Beside}
use Rattle.pnp_model.specs.Machine.{job_step}
use Rattle.devnode_tree.specs.Cores.{at_nodes}
use Rattle.trial_journal.specs.ByKind.{Arbiters}
use Rattle.device_holdings.specs.Mirrors.{Mirrors}
use Rattle.operation_frame.specs.Steps.{StepIs}
use Rattle.rebalance.specs.declared.next.RebalanceStep.{RebalanceStep}
use Rattle.rebalance.specs.declared.next.RebalanceStep.TheVariants as steps

-- what is printed, what is there then and where the rebalance stands then are those of the move, and the step tells what
-- the machine has to do beside it
abbrev pub Moved : JobMove → RebalanceStep → Core → Job → Type 0
Moved m (steps.Did label) core r = StepIs m Beside.On label core r
Moved m (steps.FailedRestart label serial) core r = StepIs m (Beside.FailedRestart serial) label core r
Moved m (steps.OverStart label) core r = StepIs m Beside.OverStart label core r
Moved m (steps.OverUndo label) core r = StepIs m Beside.OverUndo label core r
Moved m (steps.Over label) core r = StepIs m Beside.Over label core r

-- the move is done, by the answer of its search where it searches
abbrev pub MovedBy : ℕ → Option (Doing JobMove) → RebalanceStep → Core → Job → Type 0
MovedBy budget None step core r = ⊥
MovedBy budget (Some (Does m)) step core r = Moved m step core r
MovedBy budget (Some (Searches problem by_answer)) step core r =
    (found : Found) × IsAnswer problem.fixed problem.movers budget found × Moved (by_answer found) step core r

-- the step of the rebalance, whatever else there is, where the arbiters mirror what is reserved
abbrev pub Rebalances : List Node → Arbiters → List Driver → Job → ℕ → RebalanceStep → List Node → List Driver → Job → Type 0
Rebalances nodes arbiters rack r budget step nodes' rack' r' =
    (around : Core) (in_world : Bool) (handles : List Handle) → Mirrors around.reserved nodes arbiters
    → MovedBy budget (job_step (at_nodes nodes (set_rack rack around)) r Course.Rebalancing in_world handles r.walk (first_node nodes r.todo)) step (at_nodes nodes' (set_rack rack' around)) r'

-- where a request is on its way, or a restart has failed, the device that is next is there
abbrev pub HasNext : Option Node → Option Walk → Stage → Type 0
HasNext first (Some w) stage = IsSome first
HasNext first None Stage.Failed = IsSome first
HasNext first None stage = Unit {0}
