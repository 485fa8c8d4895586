use Rattle.std.proofs.Common.{◌≡◌, sym, subst}
use Rattle.pnp_model.specs.Records.{State}
use Rattle.free_model.specs.Shapes.{faces}
use Rattle.pnp_machine.specs.Ids.{AreFewIds}
use Rattle.pnp_machine.specs.Managers.{IsRunOf, Manager}
use Rattle.start_sequence.specs.Begins.{settings_of}
use Rattle.pnp_machine.proofs.RunLaws.{facts_of, run_swapped}
use Rattle.pnp_machine.proofs.manager.Manager.swap_rack.Goals as goal

pub invariant_of-self : goal.invariant_of-self
invariant_of-self g c =
    let given = rw c.deref_mut.ensures.value at c.swap_rack.ensures.given in
    let shown = subst (λ (m : Manager). faces (g.R.Drivers.rows c.args.rack.now) ≡ faces m.state.core.rack) (sym c.self.view_is) c.requires.faces in
    record {
      few = c.self.invariant.few;
      spends = c.self.invariant.spends;
      happened = c.self.invariant.happened;
      ids = subst (λ (s : State). AreFewIds s) (sym given) c.self.invariant.ids;
      run = subst (IsRunOf (settings_of c.self.inside.infs.items c.self.inside.budget) c.self.inside.events) (sym given) (run_swapped _ _ _ _ c.self.invariant.run shown);
    }

pub returns-clause-run : goal.returns-clause-run
returns-clause-run g c =
    let given = rw c.deref_mut.ensures.value at c.swap_rack.ensures.given in
    let shown = subst (λ (m : Manager). faces (g.R.Drivers.rows c.args.rack.now) ≡ faces m.state.core.rack) (sym c.self.view_is) c.requires.faces in
    subst (IsRunOf (settings_of c.self.inside.infs.items c.self.inside.budget) c.self.inside.events) (sym given) (run_swapped _ _ _ _ c.self.invariant.run shown)

pub returns-clause-facts : goal.returns-clause-facts
returns-clause-facts g c =
    let given = rw c.deref_mut.ensures.value at c.swap_rack.ensures.given in
    let shown = subst (λ (m : Manager). faces (g.R.Drivers.rows c.args.rack.now) ≡ faces m.state.core.rack) (sym c.self.view_is) c.requires.faces in
    let told = settings_of c.self.inside.infs.items c.self.inside.budget in
    facts_of told c.self.inside.events _ (subst (IsRunOf told c.self.inside.events) (sym given) (run_swapped _ _ _ _ c.self.invariant.run shown))
    (subst (λ (s : State). AreFewIds s) (sym given) c.self.invariant.ids)
