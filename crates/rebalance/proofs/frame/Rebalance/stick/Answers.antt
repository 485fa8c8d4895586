use Rattle.std.proofs.Common.{Some}
use Rattle.rebalance.proofs.Whole.{problem_whole}
use Rattle.rebalance.proofs.frame.Rebalance.stick.Goals as goal

pub returns-clause-whole : goal.returns-clause-whole
returns-clause-whole c = problem_whole c.args.tree.now c.set_problem.new.self c.self.inside.target (Some c.trouble_of-problem.result) c.set_problem.ensures
