use Rattle.std.proofs.Common.{◌≡◌, ◌++◌, drop}
use Rattle.pnp_machine.specs.Endings.{works_lines}
use Rattle.pnp_machine.proofs.ending.add_works.Given as goal

abbrev pub invariant-loop-work : goal.invariant-loop-work
invariant-loop-work g l =
    l.out.items ++ works_lines l.tree.nodes (g.R.Drivers.rows l.rack) (drop l.work-index l.works)
    ≡ l.initial.out.items ++ works_lines l.tree.nodes (g.R.Drivers.rows l.rack) l.works
