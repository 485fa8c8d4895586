use Rattle.free_run.proofs.Owns.{manager_told}
use Rattle.free_run.proofs.told.ToldRacks.step_own.Goals as goal

pub returns-in_err-label-clause-told : goal.returns-in_err-label-clause-told
returns-in_err-label-clause-told c = manager_told _ _ c.args.self.now c.requires c.step.result c.step.ensures.moves c.step.ensures.err

pub returns-in-Label-clause-told : goal.returns-in-Label-clause-told
returns-in-Label-clause-told c = manager_told _ _ c.args.self.now c.requires c.step.result c.step.ensures.moves c.step.ensures.err

pub returns-in-Quiet-clause-told : goal.returns-in-Quiet-clause-told
returns-in-Quiet-clause-told c = manager_told _ _ c.args.self.now c.requires c.step.result c.step.ensures.moves c.step.ensures.err
