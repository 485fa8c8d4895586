-- A test tells which events are of the machine.
use Rattle.std.specs.Prelude.{Bool, true, false}
use Rattle.pnp_labels.specs.declared.event.Event.{Event}
use Rattle.free_model.specs.Checks.{IsOfMachine}

abbrev pub IfOfMachine : Bool → Event → Type 0
IfOfMachine true event = IsOfMachine event
IfOfMachine false event = IsOfMachine event → ⊥
