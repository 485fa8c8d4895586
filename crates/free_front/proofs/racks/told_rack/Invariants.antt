use Rattle.std.proofs.Common.{◌≡◌, map, take}
use Rattle.free_model.specs.Frees.{whats, endless}
use Rattle.free_front.proofs.racks.told_rack.Given as goal

abbrev pub invariant-loop-kind : goal.invariant-loop-kind
invariant-loop-kind l = l.drivers.items ≡ map (λ kind. record { kind = kind; rules = map (endless l.answer) whats }) (take l.kind-index l.kinds)
