-- The operation that the next step begins, as the code tells it.
use Rattle.std.specs.Prelude.{ℕ}
use Rattle.pnp_labels.specs.declared.label.OpKind.{OpKind}
use Rattle.pnp_model.specs.Records.{Beginning}

-- an operation of this kind for this device
abbrev pub beginning_of : OpKind × ℕ → Beginning
beginning_of first = record { kind = first.0; serial = first.1 }
