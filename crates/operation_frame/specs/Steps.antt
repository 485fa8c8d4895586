-- One step of an operation as a move of the machine, whatever the operation is and whatever else there is.
use Rattle.std.specs.Prelude.{◌≡◌, Bool, true, false, List, Option, Some, None, IsSome, Ok, Err, Result}
use Rattle.pnp_labels.specs.Texts.{Text}
use Rattle.pnp_labels.specs.declared.label.Label.{Label}
use Rattle.pnp_labels.specs.declared.label.OpKind.{OpKind}
use Rattle.pnp_labels.specs.declared.label.RemoveStep.{RemoveStep}
use Rattle.pnp_labels.specs.declared.label.RemoveStep.TheVariants as steps
use Rattle.pnp_labels.specs.declared.states.Problem.{Problem}
use Rattle.pnp_model.specs.Frames.{first_node}
use Rattle.pnp_model.specs.Jobs.{JobMove, Beside}
use Rattle.pnp_model.specs.Machine.{is_waiting, after_end, job_step}
use Rattle.pnp_model.specs.Events.{answer_of, completed}
use Rattle.pnp_model.specs.Cores.{set_rack}
use Rattle.pnp_model.specs.Records.{Node, Core, Driver, Handle, Relation, Job, Course, Stage, Doing}
use Rattle.pnp_model.specs.Records.Doing.{Does, Searches}
use Rattle.devnode_tree.specs.Cores.{at_nodes, at_related}
use Rattle.device_stack.specs.declared.walk.NoSuchRequest.{NoSuchRequest}

-- its line, and where it stands then
abbrev pub BegunFor : OpKind → (Core → Node → Job) → Option Node → List Node → List Relation → Label → Job → Type 0
BegunFor kind begun None nodes relations label j = ⊥
BegunFor kind begun (Some node) nodes relations label j =
    (label ≡ Label.Begin kind node.path) × ((around : Core) → j ≡ begun (at_related nodes relations around) node)

-- what is printed, what is there then and where the operation stands then are those of the move, and this is what the
-- machine has to do beside it
abbrev pub StepIs : JobMove → Beside → Label → Core → Job → Type 0
StepIs m beside label core j = (m.beside ≡ beside) × (label ≡ m.label) × (core ≡ m.core) × (j ≡ m.frame)

-- likewise, where the step of a removal tells what the machine has to do
abbrev pub Moved : JobMove → RemoveStep → Core → Job → Type 0
Moved m (steps.Did label) core j = StepIs m Beside.On label core j
Moved m (steps.Left label path born) core j = StepIs m (Beside.Left path born) label core j
Moved m (steps.Disabled label) core j =
    (path : Text) × (label ≡ Label.Trouble path Problem.Disabled) × StepIs m (Beside.Disabled path) label core j
Moved m (steps.Ejected label path born) core j = StepIs m (Beside.Ejected path born) label core j
Moved m (steps.Over label) core j = StepIs m Beside.Over label core j

-- the step is of the move of this node, where nodes change alone
abbrev pub MovesFor : {S : Type 0} → (JobMove → S → Core → Job → Type 0) → Option Node → (Core → Node → JobMove) → List Node → S → List Node → Job → Type 0
MovesFor Is None move nodes step nodes' j = ⊥
MovesFor Is (Some node) move nodes step nodes' j =
    (around : Core) → Is (move (at_nodes nodes around) node) step (at_nodes nodes' around) j

-- the move is done outright
abbrev pub MovedBy : Option (Doing JobMove) → RemoveStep → Core → Job → Type 0
MovedBy None step core j = ⊥
MovedBy (Some (Does m)) step core j = Moved m step core j
MovedBy (Some (Searches problem by_answer)) step core j = ⊥

-- the step of an operation that goes so, whatever else there is
abbrev pub JobSteps : Course → List Node → List Relation → List Driver → Bool → List Handle → Job → RemoveStep → List Node → List Relation → List Driver → Job → Type 0
JobSteps course nodes relations rack in_world handles j step nodes' relations' rack' j' =
    (around : Core)
    → MovedBy (job_step (at_related nodes relations (set_rack rack around)) j course in_world handles j.walk (first_node nodes j.todo)) step (at_related nodes' relations' (set_rack rack' around)) j'

-- but for the end, the device that is next is there
abbrev pub HasNext : List Node → Job → Stage → Type 0
HasNext nodes j Stage.Ending = Unit {0}
HasNext nodes j stage = IsSome (first_node nodes j.todo)

-- where the request of this device has ended, the operation stands so
abbrev pub StandsAfter : Course → Option Node → List Node → Job → Bool → Bool → Job → Type 0
StandsAfter course None nodes j in_world refused j' = Unit {0}
StandsAfter course (Some node) nodes j in_world refused j' =
    (around : Core) → after_end (at_nodes nodes around) j in_world node refused course ≡ Some j'

-- an operation that waits goes on, to where the answer takes it; any other refuses, and stays
abbrev pub Completes : Bool → Result (Unit {0}) NoSuchRequest → Job → Job → Job → Type 0
Completes true (Ok done) old further new = new ≡ further
Completes false (Err refused) old further new = new ≡ old
Completes true (Err refused) old further new = ⊥
Completes false (Ok done) old further new = ⊥

-- an operation whose request waits goes on with the answer of the driver; any other refuses, and stays
abbrev pub Completed : Result (Unit {0}) NoSuchRequest → Job → Bool → Job → Type 0
Completed result old ok new = Completes (is_waiting old.walk) result old (completed (answer_of ok) old) new
