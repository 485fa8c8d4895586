-- The stages of a rebalance in the words of the machine.
use Rattle.std.specs.Prelude.{Option, option_map}
use Rattle.pnp_model.specs.Records as Records
use Rattle.pnp_model.specs.Records.{Walk}
use Rattle.pnp_laws.specs.Kept.{asked_in}
use Rattle.rebalance.specs.declared.frame.Stage.{Stage}
use Rattle.rebalance.specs.declared.frame.Stage.TheVariants.{Asking, TakingBack, Searching, Cancelling, Stuck, Stopping, Committing, Restarting, Failed, Ending}

abbrev pub stage_of : Stage → Records.Stage
stage_of Asking = Records.Stage.Asking
stage_of TakingBack = Records.Stage.TakingBack
stage_of Searching = Records.Stage.Searching
stage_of Cancelling = Records.Stage.Cancelling
stage_of Stuck = Records.Stage.Stuck
stage_of Stopping = Records.Stage.Stopping
stage_of Committing = Records.Stage.Committing
stage_of Restarting = Records.Stage.Restarting
stage_of Failed = Records.Stage.Failed
stage_of Ending = Records.Stage.Ending

-- the request that is on its way, in a stage that has one
abbrev pub walk_at : Stage → Walk → Option Walk
walk_at stage w = option_map (λ minor. w) (asked_in Records.Course.Rebalancing (stage_of stage))
