use Rattle.std.proofs.Common.{[]}
use Rattle.pnp_labels.specs.declared.label.OpKind.{OpKind}
use Rattle.pnp_model.specs.Cores.{node_at}
use Rattle.pnp_model.specs.Finishes.{begun_finish}
use Rattle.pnp_machine.proofs.BeginSteps.{any_relations, job_begun}
use Rattle.pnp_machine.proofs.machine.Machine.begin_finish.Goals as goal

pub returns-clause-done : goal.returns-clause-done
returns-clause-done g c =
    job_begun c.args.self.now c.run.new.self c.run.result c.in_ok-label.label c.run.ensures.label OpKind.Finish (λ d n. begun_finish n) c.in_ok-label.finish
    (node_at c.args.serial c.args.self.now.core.nodes) (any_relations OpKind.Finish begun_finish (node_at c.args.serial c.args.self.now.core.nodes) c.args.self.now.core.nodes [] c.args.self.now.core.relations
    c.in_ok-label.label c.in_ok-label.finish (rw (← c.self.view_is) c.in_ok-label.ensures)) c.run.ensures.state
