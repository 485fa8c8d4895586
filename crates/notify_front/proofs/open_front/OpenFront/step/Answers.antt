use Rattle.notify_front.proofs.Opening.{fit_after}
use Rattle.notify_front.proofs.open_front.OpenFront.step.Goals as goal

pub invariant_of-self : goal.invariant_of-self
invariant_of-self g c = fit_after c.self.inside.desk c.step.new.self c.self.invariant c.step.result c.step.ensures.moves c.step.ensures.err
