use Rattle.std.proofs.Common.{◌≡◌, drop}
use Rattle.pnp_io.specs.Memory.{moved}
use Rattle.pnp_io.proofs.short.moved.Given as goal

abbrev pub invariant-loop-listed : goal.invariant-loop-listed
invariant-loop-listed l = moved l.short l.call l.n ≡ moved (drop l.listed-index l.short) l.call l.n
