-- What a step of a start or of an operation does to the devices.
use Rattle.std.specs.Prelude.{◌≡◌, ℕ, Bool, List, Option}
use Rattle.pnp_model.specs.Cores.{node_at, core_of}
use Rattle.pnp_model.specs.Frames.{first_node}
use Rattle.pnp_model.specs.Jobs.{JobMove}
use Rattle.pnp_model.specs.Machine.{job_step}
use Rattle.pnp_model.specs.Records.{Core, Course, Doing, Driver, Job, Phase}
use Rattle.pnp_labels.specs.declared.label.RemoveStep.{RemoveStep}
use Rattle.devnode_tree.specs.Cores.{at_nodes}
use Rattle.start_sequence.specs.Steps.{DoneFor}
use Rattle.start_sequence.specs.declared.next.StartStep.{StartStep}
use Rattle.rebalance.specs.Steps as rebalances
use Rattle.rebalance.specs.declared.next.RebalanceStep.{RebalanceStep}
use Rattle.operation_frame.specs.Steps.{MovedBy}
use Rattle.pnp_machine.specs.Devices.{Devices}

abbrev pub core_with : Devices → List Driver → Core
core_with ds rack = core_of ds.tree.nodes ds.relations rack ds.reserved

-- the step of the start of device k, for this budget; all but the nodes stay
abbrev pub Acts : ℕ → Devices → ℕ → List Driver → Phase → StartStep → Devices → List Driver → Phase → Type 0
Acts budget ds k rack phase step ds' rack' phase' =
    DoneFor budget (node_at k ds.tree.nodes) (core_with ds rack) phase step (at_nodes ds'.tree.nodes (core_with ds rack')) phase'
    × (ds' ≡ record ds { tree = record ds.tree { nodes = ds'.tree.nodes } })

-- the next step of an operation that goes so
abbrev pub step_of : Course → Devices → List Driver → Bool → Job → Option (Doing JobMove)
step_of course ds rack in_world j = job_step (core_with ds rack) j course in_world ds.handles j.walk (first_node ds.tree.nodes j.todo)

-- all but nodes and relations stay
abbrev pub StaysBeside : Devices → Devices → Type 0
StaysBeside ds ds' = ds' ≡ record ds { tree = record ds.tree { nodes = ds'.tree.nodes }; relations = ds'.relations }

-- the step of an operation that removes devices
abbrev pub Removes : Course → Devices → List Driver → Bool → Job → RemoveStep → Devices → List Driver → Job → Type 0
Removes course ds rack in_world j step ds' rack' j' = MovedBy (step_of course ds rack in_world j) step (core_with ds' rack') j' × StaysBeside ds ds'

-- the step of a rebalance, for this budget
abbrev pub Rebalances : ℕ → Devices → List Driver → Job → RebalanceStep → Devices → List Driver → Job → Type 0
Rebalances budget ds rack j step ds' rack' j' =
    ((in_world : Bool) → rebalances.MovedBy budget (step_of Course.Rebalancing ds rack in_world j) step (core_with ds' rack') j') × StaysBeside ds ds'
