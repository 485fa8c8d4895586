use Rattle.std.proofs.Common.{◌≡◌, drop}
use Rattle.pnp_io.specs.Memory.{file_in}
use Rattle.pnp_io.proofs.memory.find.Given as goal

abbrev pub invariant-loop-entry : goal.invariant-loop-entry
invariant-loop-entry l = file_in l.entries l.name ≡ file_in (drop l.entry-index l.entries) l.name
