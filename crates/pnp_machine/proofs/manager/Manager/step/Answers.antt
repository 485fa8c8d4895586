use Rattle.start_sequence.specs.Begins.{settings_of}
use Rattle.pnp_machine.proofs.RunLaws.{facts_of, run_serials, run_after, laws_after, few_after}
use Rattle.pnp_machine.proofs.manager.Manager.step.Goals as goal

pub step-requires-clause-room : goal.step-requires-clause-room
step-requires-clause-room g c = rw c.deref_mut.ensures.value (run_serials _ _ _ c.self.invariant.run c.self.invariant.happened)

pub invariant_of-self : goal.invariant_of-self
invariant_of-self g c =
    let moves = rw c.deref_mut.ensures.value at (rw c.deref.ensures.value at c.step.ensures.moves) in
    let err = rw c.deref_mut.ensures.value at c.step.ensures.err in
    record {
      few = c.self.invariant.few;
      spends = c.self.invariant.spends;
      happened = c.self.invariant.happened;
      ids = few_after (settings_of c.self.inside.infs.items c.self.inside.budget) _ _ c.self.invariant.ids c.step.result moves err;
      run = run_after _ _ _ _ c.self.invariant.run c.step.result moves err;
    }

pub returns-clause-laws : goal.returns-clause-laws
returns-clause-laws g c =
    let moves = rw c.deref_mut.ensures.value at (rw c.deref.ensures.value at c.step.ensures.moves) in
    rw (← c.self.view_is) (laws_after _ _ _ _ c.self.invariant.run c.self.invariant.happened c.step.result moves)

pub returns-clause-run : goal.returns-clause-run
returns-clause-run g c =
    let moves = rw c.deref_mut.ensures.value at (rw c.deref.ensures.value at c.step.ensures.moves) in
    let err = rw c.deref_mut.ensures.value at c.step.ensures.err in
    run_after _ _ _ _ c.self.invariant.run c.step.result moves err

pub returns-clause-facts : goal.returns-clause-facts
returns-clause-facts g c =
    let moves = rw c.deref_mut.ensures.value at (rw c.deref.ensures.value at c.step.ensures.moves) in
    let err = rw c.deref_mut.ensures.value at c.step.ensures.err in
    let told = settings_of c.self.inside.infs.items c.self.inside.budget in
    facts_of told _ _ (run_after _ _ _ _ c.self.invariant.run c.step.result moves err) (few_after told _ _ c.self.invariant.ids c.step.result moves err)
