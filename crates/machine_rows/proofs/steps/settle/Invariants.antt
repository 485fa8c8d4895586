use Rattle.std.proofs.Common.{◌≡◌}
use Rattle.machine_rows.proofs.steps.settle.Given as goal

abbrev pub invariant-steps : goal.invariant-steps
invariant-steps g l = l.manager.events ≡ l.initial.manager.events
