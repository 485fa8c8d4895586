-- Kind and stages of a removal in the words of the machine.
use Rattle.std.specs.Prelude.{Bool, true, false, Option}
use Rattle.pnp_labels.specs.declared.label.OpKind.{OpKind}
use Rattle.pnp_model.specs.Records as Records
use Rattle.pnp_model.specs.Records.{Walk}
use Rattle.operation_frame.specs.Walks.{walk_if}
use Rattle.operation_frame.specs.declared.leaving.Finish.{Finish}
use Rattle.operation_frame.specs.declared.leaving.Finish.TheVariants as finishes
use Rattle.query_remove.specs.declared.frame.Stage.{Stage}
use Rattle.query_remove.specs.declared.frame.Stage.TheVariants.{Next, Asking, TakingBack, Cancelling, Removing, Settling, Ending}

-- a device is ejected, or else disabled
abbrev pub kind_by : Bool → OpKind
kind_by true = OpKind.Eject
kind_by false = OpKind.Disable

abbrev pub stage_of : Stage → Records.Stage
stage_of Next = Records.Stage.Next
stage_of Asking = Records.Stage.Asking
stage_of TakingBack = Records.Stage.TakingBack
stage_of Cancelling = Records.Stage.Cancelling
stage_of Removing = Records.Stage.Removing
stage_of Settling = Records.Stage.Settling
stage_of Ending = Records.Stage.Ending

-- a request is on its way
abbrev pub is_walking : Stage → Bool
is_walking Next = false
is_walking Settling = false
is_walking Ending = false
is_walking _ = true

abbrev pub walk_at : Stage → Walk → Option Walk
walk_at stage w = walk_if (is_walking stage) w

-- how a device is finished
abbrev pub finishing : Finish → Stage
finishing finishes.Removing = Removing
finishing finishes.Settling = Settling
finishing finishes.Ending = Ending
