use Rattle.std.proofs.Common.{◌≡◌, ◌++◌, drop}
use Rattle.pnp_machine.specs.Endings.{handle_lines}
use Rattle.pnp_machine.proofs.ending.add_handles.Given as goal

abbrev pub invariant-loop-row : goal.invariant-loop-row
invariant-loop-row l =
    l.out.items ++ handle_lines l.tree.nodes (drop l.row-index l.row-items) ≡ l.initial.out.items ++ handle_lines l.tree.nodes l.row-items
