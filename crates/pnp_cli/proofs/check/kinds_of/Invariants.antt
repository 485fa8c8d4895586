use Rattle.std.proofs.Common.{◌≡◌, map, take}
use Rattle.pnp_cli.proofs.check.kinds_of.Given as goal

abbrev pub invariant-loop-driver : goal.invariant-loop-driver
invariant-loop-driver g l = l.kinds.items ≡ map (λ d. g.D.Driver.kind_of d) (take l.driver-index l.drivers)
