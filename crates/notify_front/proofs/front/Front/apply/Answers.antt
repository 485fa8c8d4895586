use Rattle.std.proofs.Common.{sym, subst}
use Rattle.notify_front.specs.Fronts.{IsFrontQuiet}
use Rattle.notify_front.specs.Desks.{Desk, front_of, told_of}
use Rattle.notify_front.proofs.FrontRuns.{machine_quiet, reached_applied, reached_fits, run_ok}
use Rattle.notify_front.proofs.front.Front.apply.Goals as goal

pub apply-requires-clause-quiet : goal.apply-requires-clause-quiet
apply-requires-clause-quiet g c =
    let d = c.self.inside.desk in
    machine_quiet (told_of d) (front_of d) (reached_fits d c.self.invariant) (subst (λ (x : Desk). IsFrontQuiet (told_of x) (front_of x)) (sym c.self.view_is) c.requires.quiet)

pub invariant_of-self : goal.invariant_of-self
invariant_of-self g c =
    let quiet = subst (λ (x : Desk). IsFrontQuiet (told_of x) (front_of x)) (sym c.self.view_is) c.requires.quiet in
    reached_applied c.self.inside.desk c.apply.new.self c.self.invariant c.args.event quiet c.needs_are_few.ensures c.apply.result c.apply.ensures.done c.apply.ensures.settings c.apply.ensures.count c.apply.ensures.err

pub returns-clause-run : goal.returns-clause-run
returns-clause-run g c =
    let quiet = subst (λ (x : Desk). IsFrontQuiet (told_of x) (front_of x)) (sym c.self.view_is) c.requires.quiet in
    run_ok c.self.inside.desk c.apply.new.self c.self.invariant c.args.event quiet c.needs_are_few.ensures c.apply.result c.apply.ensures.done c.apply.ensures.settings c.apply.ensures.count c.apply.ensures.err
