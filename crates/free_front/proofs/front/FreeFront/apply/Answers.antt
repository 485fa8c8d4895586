use Rattle.free_front.proofs.front.FreeFront.apply.Goals as goal

pub apply-requires-clause-told : goal.apply-requires-clause-told
apply-requires-clause-told c = c.self.invariant

pub invariant_of-self : goal.invariant_of-self
invariant_of-self c = c.apply.ensures.told
