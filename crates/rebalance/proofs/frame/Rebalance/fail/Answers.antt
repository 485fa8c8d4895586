use Rattle.std.proofs.Common.{Some}
use Rattle.pnp_labels.specs.declared.states.Problem.{Problem}
use Rattle.rebalance.proofs.Whole.{problem_whole}
use Rattle.rebalance.proofs.frame.Rebalance.fail.Goals as goal

pub returns-clause-whole : goal.returns-clause-whole
returns-clause-whole c = problem_whole c.args.tree.now c.set_problem.new.self c.node.inside.serial (Some Problem.FailedStart) c.set_problem.ensures
