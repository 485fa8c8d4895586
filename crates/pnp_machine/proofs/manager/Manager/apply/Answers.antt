use Rattle.std.proofs.Common.{sym, ap, subst, arith}
use Rattle.pnp_model.specs.Machine.{IsQuiet}
use Rattle.start_sequence.specs.Begins.{settings_of}
use Rattle.pnp_machine.specs.Managers.{Manager, settings}
use Rattle.pnp_machine.proofs.RunLaws.{facts_of, run_births, run_applied, laws_applied, few_applied}
use Rattle.pnp_machine.proofs.manager.Manager.apply.Goals as goal

pub apply-requires : goal.apply-requires
apply-requires g c =
    let e = ap (λ (m : Manager). m.events) c.self.view_is in
    let few = c.requires.events in
    rw c.deref_mut.ensures.value (run_births _ _ _ c.self.invariant.run (omega arith))

pub invariant_of-self-2 : goal.invariant_of-self-2
invariant_of-self-2 g c =
    let done = rw c.deref_mut.ensures.value at c.in_ok-label.ensures.done in
    let quiet = subst (λ (m : Manager). IsQuiet (settings m) m.state) (sym c.self.view_is) c.requires.quiet in
    record {
      few = c.self.invariant.few;
      spends = c.self.invariant.spends;
      happened = let e = ap (λ (m : Manager). m.events) c.self.view_is in let few = c.requires.events in omega arith;
      ids = few_applied (settings_of c.self.inside.infs.items c.self.inside.budget) _ _ c.self.invariant.ids c.args.event c.in_ok-label.label c.requires.ids quiet done;
      run = run_applied _ _ _ _ c.args.event c.in_ok-label.label c.self.invariant.run c.needs_are_few.ensures quiet done;
    }

pub returns-clause-laws : goal.returns-clause-laws
returns-clause-laws g c =
    let done = rw c.deref_mut.ensures.value at c.in_ok-label.ensures.done in
    let quiet = subst (λ (m : Manager). IsQuiet (settings m) m.state) (sym c.self.view_is) c.requires.quiet in
    let e = ap (λ (m : Manager). m.events) c.self.view_is in
    let most = c.requires.events in
    rw (← c.self.view_is) (laws_applied _ _ _ _ c.args.event c.in_ok-label.label c.self.invariant.run (omega arith) c.needs_are_few.ensures quiet done)

pub returns-clause-run : goal.returns-clause-run
returns-clause-run g c =
    let done = rw c.deref_mut.ensures.value at c.in_ok-label.ensures.done in
    let quiet = subst (λ (m : Manager). IsQuiet (settings m) m.state) (sym c.self.view_is) c.requires.quiet in
    run_applied _ _ _ _ c.args.event c.in_ok-label.label c.self.invariant.run c.needs_are_few.ensures quiet done

pub returns-clause-facts : goal.returns-clause-facts
returns-clause-facts g c =
    let done = rw c.deref_mut.ensures.value at c.in_ok-label.ensures.done in
    let quiet = subst (λ (m : Manager). IsQuiet (settings m) m.state) (sym c.self.view_is) c.requires.quiet in
    let told = settings_of c.self.inside.infs.items c.self.inside.budget in
    facts_of told _ _ (run_applied _ _ _ _ c.args.event c.in_ok-label.label c.self.invariant.run c.needs_are_few.ensures quiet done)
    (few_applied told _ _ c.self.invariant.ids c.args.event c.in_ok-label.label c.requires.ids quiet done)
