use Rattle.std.proofs.Common.{drop}
use Rattle.pnp_model.specs.Tasks.{numbered}
use Rattle.start_sequence.proofs.Numbers.{Continues}
use Rattle.start_sequence.proofs.begin.append_numbers.Given as goal

abbrev pub invariant-loop-at : goal.invariant-loop-at
invariant-loop-at g l =
    Continues (numbered (g.R.Drivers.rows l.rack) l.names) (numbered (g.R.Drivers.rows l.rack) (drop l.at l.names)) l.fn.drivers.items l.drivers.items
