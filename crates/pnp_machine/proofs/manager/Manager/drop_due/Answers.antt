use Rattle.std.proofs.Common.{true, IsSomeAnd, ◌≡◌, sym, subst}
use Rattle.pnp_model.specs.Machine.{due, is_in_order}
use Rattle.pnp_machine.specs.Ids.{AreFewIds}
use Rattle.pnp_machine.specs.Managers.{Manager}
use Rattle.pnp_model.specs.Records.{State}
use Rattle.pnp_machine.proofs.RunLaws.{facts_of, run_declined}
use Rattle.pnp_machine.proofs.manager.Manager.drop_due.Goals as goal

pub invariant_of-self : goal.invariant_of-self
invariant_of-self g c =
    let dropped = rw c.deref_mut.ensures.value at c.drop_due.ensures in
    let order = subst (λ (m : Manager). IsSomeAnd (due m.state) (λ first. is_in_order first.kind ≡ true)) (sym c.self.view_is) c.requires in
    record {
      few = c.self.invariant.few;
      spends = c.self.invariant.spends;
      happened = c.self.invariant.happened;
      ids = subst (λ (s : State). AreFewIds s) (sym dropped) c.self.invariant.ids;
      run = run_declined _ _ _ _ c.self.invariant.run order dropped;
    }

pub returns-clause-run : goal.returns-clause-run
returns-clause-run g c =
    let dropped = rw c.deref_mut.ensures.value at c.drop_due.ensures in
    let order = subst (λ (m : Manager). IsSomeAnd (due m.state) (λ first. is_in_order first.kind ≡ true)) (sym c.self.view_is) c.requires in
    run_declined _ _ _ _ c.self.invariant.run order dropped

pub returns-clause-facts : goal.returns-clause-facts
returns-clause-facts g c =
    let dropped = rw c.deref_mut.ensures.value at c.drop_due.ensures in
    let order = subst (λ (m : Manager). IsSomeAnd (due m.state) (λ first. is_in_order first.kind ≡ true)) (sym c.self.view_is) c.requires in
    facts_of _ _ _ (run_declined _ _ _ _ c.self.invariant.run order dropped) (subst (λ (s : State). AreFewIds s) (sym dropped) c.self.invariant.ids)
