use Rattle.free_front.proofs.front.FreeFront.step.Goals as goal

pub step-requires : goal.step-requires
step-requires c = c.self.invariant

pub invariant_of-self : goal.invariant_of-self
invariant_of-self c = c.step.ensures.told
