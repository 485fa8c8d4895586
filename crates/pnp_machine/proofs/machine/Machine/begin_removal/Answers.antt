use Rattle.pnp_model.specs.Cores.{node_at}
use Rattle.pnp_model.specs.Removals.{begun_removal}
use Rattle.pnp_machine.proofs.BeginSteps.{job_begun}
use Rattle.pnp_machine.proofs.machine.Machine.begin_removal.Goals as goal

pub returns-clause-done : goal.returns-clause-done
returns-clause-done g c =
    job_begun c.args.self.now c.run.new.self c.run.result c.in_ok-label.label c.run.ensures.label c.args.kind (λ d n. begun_removal d c.args.kind n) c.in_ok-label.removal
    (node_at c.args.serial c.args.self.now.core.nodes) (rw (← c.self.view_is) c.in_ok-label.ensures) c.run.ensures.state
