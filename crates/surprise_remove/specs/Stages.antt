-- The stages of a surprise removal in the words of the machine.
use Rattle.std.specs.Prelude.{Bool, true, false, Option}
use Rattle.pnp_model.specs.Records as Records
use Rattle.pnp_model.specs.Records.{Walk}
use Rattle.operation_frame.specs.Walks.{walk_if}
use Rattle.surprise_remove.specs.declared.frame.Stage.{Stage}
use Rattle.surprise_remove.specs.declared.frame.Stage.TheVariants.{Telling, Next, Removing, Settling, Ending}

abbrev pub stage_of : Stage → Records.Stage
stage_of Telling = Records.Stage.Telling
stage_of Next = Records.Stage.Next
stage_of Removing = Records.Stage.Removing
stage_of Settling = Records.Stage.Settling
stage_of Ending = Records.Stage.Ending

-- a request is on its way
abbrev pub is_walking : Stage → Bool
is_walking Telling = true
is_walking Removing = true
is_walking _ = false

abbrev pub walk_at : Stage → Walk → Option Walk
walk_at stage w = walk_if (is_walking stage) w
