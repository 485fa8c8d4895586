use Rattle.std.proofs.Common.{◌≡◌, take}
use Rattle.notify_front.specs.Fronts.{on_each}
use Rattle.notify_front.proofs.registrations.Registrations.on_each.Given as goal

abbrev pub invariant-devices : goal.invariant-devices
invariant-devices l = l.told.items ≡ on_each (take l.at l.devices) l.self
