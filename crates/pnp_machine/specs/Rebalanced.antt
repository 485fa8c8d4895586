-- What the machine does beside a step of a rebalance.
use Rattle.std.specs.Prelude.{ℕ, None}
use Rattle.pnp_labels.specs.declared.label.Label.{Label}
use Rattle.pnp_labels.specs.declared.label.OpKind.{OpKind}
use Rattle.pnp_labels.specs.declared.words.Minor.{Minor}
use Rattle.pnp_model.specs.Records.{Duty, State}
use Rattle.pnp_model.specs.Records.Phase.{Starting, Removing}
use Rattle.pnp_model.specs.States.{begin_activity, put_task_first, set_operation}
use Rattle.pnp_model.specs.Walks.{walk_of}
use Rattle.rebalance.specs.declared.next.RebalanceStep.{RebalanceStep}
use Rattle.rebalance.specs.declared.next.RebalanceStep.TheVariants as steps

abbrev pub rebalance_label : RebalanceStep → Label
rebalance_label (steps.Did label) = label
rebalance_label (steps.FailedRestart label serial) = label
rebalance_label (steps.OverStart label) = label
rebalance_label (steps.OverUndo label) = label
rebalance_label (steps.Over label) = label

-- by the device for which it ran
abbrev pub beside_rebalance : RebalanceStep → ℕ → State → State
beside_rebalance (steps.Did label) target s = s
beside_rebalance (steps.FailedRestart label serial) target s = put_task_first (Duty.Begins OpKind.Surprise) serial s
beside_rebalance (steps.OverStart label) target s = begin_activity target (Starting (walk_of Minor.Start)) (set_operation None s)
beside_rebalance (steps.OverUndo label) target s = begin_activity target (Removing (walk_of Minor.Remove)) (set_operation None s)
beside_rebalance (steps.Over label) target s = set_operation None s
