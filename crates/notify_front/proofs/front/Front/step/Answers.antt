use Rattle.notify_front.specs.Desks.{front_of, told_of}
use Rattle.notify_front.proofs.FrontRuns.{laws_after, reached_after, reached_fits}
use Rattle.notify_front.proofs.front.Front.step.Goals as goal

pub step-requires : goal.step-requires
step-requires g c = reached_fits c.self.inside.desk c.self.invariant

pub invariant_of-self : goal.invariant_of-self
invariant_of-self g c = reached_after c.self.inside.desk c.step.new.self c.self.invariant c.step.result c.step.ensures.moves c.step.ensures.same c.step.ensures.err

pub returns-clause-laws : goal.returns-clause-laws
returns-clause-laws g c = laws_after c.step.result (told_of c.args.self.now) (front_of c.args.self.now) (front_of c.step.new.self)

pub returns-clause-run : goal.returns-clause-run
returns-clause-run g c = reached_after c.self.inside.desk c.step.new.self c.self.invariant c.step.result c.step.ensures.moves c.step.ensures.same c.step.ensures.err
