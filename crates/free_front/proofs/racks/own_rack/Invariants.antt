use Rattle.std.proofs.Common.{◌≡◌, map, take}
use Rattle.free_model.specs.Frees.{own_rules}
use Rattle.free_front.proofs.racks.own_rack.Given as goal

abbrev pub invariant-loop-kind : goal.invariant-loop-kind
invariant-loop-kind l = l.drivers.items ≡ map (λ kind. record { kind = kind; rules = own_rules kind }) (take l.kind-index l.kinds)
