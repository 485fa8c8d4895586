use Rattle.std.proofs.Common.{◌≡◌, length, map, ◌++◌}
use Rattle.device_ids.specs.Cuts.{parts}
use Rattle.device_ids.proofs.cuts.cut.Given as goal

abbrev pub invariant-loop-part : goal.invariant-loop-part
invariant-loop-part l = parts l.at l.bytes ≡ map (λ x. x.now) l.found.items ++ parts l.at l.rest

abbrev pub decreases-loop-part : goal.decreases-loop-part
decreases-loop-part l = length l.rest
