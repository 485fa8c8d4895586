-- Each step and each event keeps what a run keeps, and the opening state has it.
use Rattle.std.proofs.Common.{ℕ, ◌≡◌, true, List, [], ◌∷◌, Some, refl, sym, subst, arith}
use Rattle.std.proofs.lemmas.Bool.Decides.{nat_tests}
use Rattle.pnp_model.specs.Records.{Node, Driver, State, Step, Settings}
use Rattle.pnp_model.specs.Cores.{node_at}
use Rattle.pnp_laws.specs.Kept.{IsGood, Lawful, HasStackOf, is_calm}
use Rattle.pnp_model.specs.Runs.{Entry, Goes, opening, root_node}
use Rattle.pnp_laws.specs.RunsWell.{MayBegin}
use Rattle.pnp_model.specs.Runs.Entry.{Happens, Did, Declines}
use Rattle.pnp_model.specs.States.{drop_task}
use Rattle.pnp_laws.proofs.TaskSteps.{unchanged}
use Rattle.pnp_laws.proofs.MachineSteps.{lawful_step}
use Rattle.pnp_laws.proofs.EventSteps.{lawful_happens}

pub lawful_goes : (settings : Settings) (old : State) (entry : Entry) (new : State) → MayBegin old → IsGood old → Goes settings old entry new → Lawful new
lawful_goes settings old (Happens event label) new begins good h = subst (λ (t : Step). Lawful t.state) h.1 (lawful_happens old event good)
lawful_goes settings old (Did label) new begins good h = lawful_step settings old (record { label = label; state = new }) begins good h
lawful_goes settings old (Declines label) new begins good h = subst (λ (t : State). Lawful t) (sym h.dropped) (unchanged old (drop_task old) refl refl refl refl good)

pub root_is : (k : ℕ) (n : Node) → node_at k (root_node ∷ []) ≡ Some n → (root_node ≡ n) × (k ≡ 0)
root_is k n h = (grind (arith, nat_tests), grind (arith, nat_tests))

pub opening_is_good : (rack : List Driver) → IsGood (opening rack)
opening_is_good rack =
    record {
      begun = omega arith;
      serials = (omega arith, tt);
      below = λ k n h. let e = (root_is k n h).1 in omega arith;
      stacks =
          λ k n h.
          let e = root_is k n h in
          let k0 = e.1 in
          subst (λ (x : Node). HasStackOf k x.state x.stack) e.0 (record { none = λ q. refl; some = λ d q. absurd (d k0); root = λ z. refl });
      order = tt;
      phases = λ k a h. absurd (cc);
      alone = tt;
      fits = λ k n h. subst (λ (x : Node). is_calm x.state ≡ true) (root_is k n h).0 refl;
    }
