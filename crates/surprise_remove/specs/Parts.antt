-- The parts of a step of a surprise removal.
use Rattle.std.specs.Prelude.{ℕ, Bool, true, false, List, [], ◌∷◌, Option}
use Rattle.pnp_labels.specs.declared.label.RemoveStep.{RemoveStep}
use Rattle.pnp_model.specs.Cores.{stack_of}
use Rattle.pnp_model.specs.Jobs.{stands}
use Rattle.pnp_model.specs.Records.{Node, Job, Stage}
use Rattle.pnp_model.specs.Records.Stage.{Next, Settling, Ending}
use Rattle.pnp_model.specs.Surprises.{removing, settle}
use Rattle.operation_frame.specs.Steps.{Moved, MovesFor}

-- the device that is next is being told or finished
abbrev pub is_under_way : Stage → Bool
is_under_way Next = false
is_under_way Ending = false
is_under_way _ = true

-- a device begins to be finished: where it has drivers they are removed first
abbrev pub finishing_with : Job → List ℕ → Job
finishing_with o [] = stands o o.todo Settling
finishing_with o (d ∷ ds) = removing o

abbrev pub finishing : Job → Option Node → Job
finishing o node = finishing_with o (stack_of node)

-- a device that is settled leaves or remains, or the operation ends
abbrev pub SettlesFor : Option Node → List Node → Job → Bool → RemoveStep → List Node → Job → Type 0
SettlesFor first nodes o in_world step nodes' o' = MovesFor Moved first (λ c n. settle c o n in_world) nodes step nodes' o'
