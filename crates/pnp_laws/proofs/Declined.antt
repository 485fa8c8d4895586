-- Where a client declines what is due, no operation runs, and none begins.
use Rattle.std.proofs.Common.{◌≡◌, None, ap, ◌∙◌}
use Rattle.pnp_labels.specs.declared.label.Label.{Label}
use Rattle.pnp_model.specs.Machine.{IsDeclined}
use Rattle.pnp_model.specs.Records.{State}
use Rattle.pnp_model.proofs.Due.{due_is_first}

pub idle_before : (s : State) (label : Label) (t : State) → IsDeclined s label t → s.operation ≡ None
idle_before s label t declines = (due_is_first s declines.first declines.is_due).idle

pub idle_after : (s : State) (label : Label) (t : State) → IsDeclined s label t → t.operation ≡ None
idle_after s label t declines = ap (λ (x : State). x.operation) declines.dropped ∙ idle_before s label t declines
