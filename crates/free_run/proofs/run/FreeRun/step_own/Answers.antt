use Rattle.free_run.proofs.run.FreeRun.step_own.Goals as goal

pub step_own-requires : goal.step_own-requires
step_own-requires c = c.self.invariant

pub invariant_of-self : goal.invariant_of-self
invariant_of-self c = c.step_own.ensures.told
