use Rattle.pnp_labels.specs.declared.label.OpKind.{OpKind}
use Rattle.pnp_model.specs.Cores.{node_at}
use Rattle.pnp_model.specs.Surprises.{begun_surprise}
use Rattle.pnp_machine.proofs.BeginSteps.{job_begun}
use Rattle.pnp_machine.proofs.machine.Machine.begin_surprise.Goals as goal

pub returns-clause-done : goal.returns-clause-done
returns-clause-done g c =
    job_begun c.args.self.now c.run.new.self c.run.result c.in_ok-label.label c.run.ensures.label OpKind.Surprise begun_surprise c.in_ok-label.surprise
    (node_at c.args.serial c.args.self.now.core.nodes) (rw (← c.self.view_is) c.in_ok-label.ensures) c.run.ensures.state
