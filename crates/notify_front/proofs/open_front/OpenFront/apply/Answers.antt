use Rattle.std.proofs.Common.{sym, subst}
use Rattle.notify_front.specs.Fronts.{IsFrontQuiet}
use Rattle.notify_front.specs.Desks.{Desk, front_of, told_of}
use Rattle.notify_front.proofs.FrontRuns.{machine_quiet}
use Rattle.notify_front.proofs.Opening.{fit_applied}
use Rattle.notify_front.proofs.open_front.OpenFront.apply.Goals as goal

pub apply-requires-clause-quiet : goal.apply-requires-clause-quiet
apply-requires-clause-quiet g c =
    let d = c.self.inside.desk in
    machine_quiet (told_of d) (front_of d) c.self.invariant (subst (λ (x : Desk). IsFrontQuiet (told_of x) (front_of x)) (sym c.self.view_is) c.requires.quiet)

pub invariant_of-self : goal.invariant_of-self
invariant_of-self g c =
    let quiet = subst (λ (x : Desk). IsFrontQuiet (told_of x) (front_of x)) (sym c.self.view_is) c.requires.quiet in
    fit_applied c.self.inside.desk c.apply.new.self c.self.invariant c.args.event quiet c.apply.result c.apply.ensures.done c.apply.ensures.err
