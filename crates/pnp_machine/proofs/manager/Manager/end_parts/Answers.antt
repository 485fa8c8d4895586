use Rattle.std.proofs.Common.{subst}
use Rattle.pnp_laws.specs.Printed.{TreeIsPrinted}
use Rattle.pnp_machine.specs.Managers.{Manager}
use Rattle.pnp_machine.proofs.RunLaws.{of_run_printed}
use Rattle.pnp_machine.proofs.manager.Manager.end_parts.Goals as goal

pub returns-clause-tree : goal.returns-clause-tree
returns-clause-tree g c = subst (λ (m : Manager). TreeIsPrinted m.state.core.nodes) c.self.view_is (of_run_printed _ _ _ c.self.invariant.run)
