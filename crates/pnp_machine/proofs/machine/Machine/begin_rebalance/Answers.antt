use Rattle.pnp_labels.specs.declared.label.OpKind.{OpKind}
use Rattle.pnp_model.specs.Cores.{node_at}
use Rattle.pnp_model.specs.Rebalances.{begun_rebalance}
use Rattle.pnp_machine.proofs.BeginSteps.{job_begun}
use Rattle.pnp_machine.proofs.machine.Machine.begin_rebalance.Goals as goal

pub returns-clause-done : goal.returns-clause-done
returns-clause-done g c =
    job_begun c.args.self.now c.run.new.self c.run.result c.in_ok-label.label c.run.ensures.label OpKind.Rebalance begun_rebalance c.in_ok-label.rebalance
    (node_at c.args.serial c.args.self.now.core.nodes) (rw (← c.self.view_is) (c.in_ok-label.ensures c.self.inside.devices.relations)) c.run.ensures.state
