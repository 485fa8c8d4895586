-- What the parts of the machine tell of its next step is what the definition has.
use Rattle.std.proofs.Common.{ℕ, ◌≡◌, Bool, true, false, not, List, Option, Some, None, IfSome, find, refl, sym, ap, ◌∙◌, subst, option_map}
use Rattle.pnp_labels.specs.Texts.{Text}
use Rattle.pnp_model.specs.Cores.{node_at}
use Rattle.pnp_model.specs.Machine.{is_ready, is_waiting, phase_walk}
use Rattle.pnp_model.specs.Records.{Activity, Course, Driver, State, Task, course_of}
use Rattle.pnp_model.specs.States.{activity_at}
use Rattle.pnp_laws.specs.Kept.{InOrder}
use Rattle.pnp_laws.specs.Stacks.{IsNamed}
use Rattle.pnp_laws.proofs.Lookups.{find_passes, ready_found}
use Rattle.free_model.specs.Asks as asks
use Rattle.free_model.specs.Asks.{activity_query, idle_query, next_query, operation_query}
use Rattle.surprise_remove.specs.Steps.{DirectSays}
use Rattle.pnp_machine.specs.Devices.{Devices}
use Rattle.pnp_machine.specs.Doings.{core_with}
use Rattle.pnp_machine.specs.Machines.{state_of}
use Rattle.pnp_machine.specs.Managers.{IsOfRun}
use Rattle.pnp_machine.specs.Operations.{operation_of}
use Rattle.pnp_machine.specs.Queries.{query_of}
use Rattle.pnp_machine.specs.Starts.{first_ready}
use Rattle.pnp_machine.specs.declared.operation.Operation.{Operation}
use Rattle.pnp_machine.specs.declared.query.Query.{Query}
use Rattle.pnp_machine.proofs.Named.{query_named}
use Rattle.pnp_machine.proofs.OperationSteps.{surprise_needs, was_is}

-- the lowest start that does not wait
pub ready_is : (works : List Activity) (k : ℕ) (a : Activity) → InOrder 0 works → first_ready works ≡ Some k → activity_at k works ≡ Some a → find is_ready works ≡ Some a
ready_is works k a order first at = by_found (find is_ready works) refl first
  where
    by_found : (o : Option Activity) → find is_ready works ≡ o → option_map (λ (x : Activity). x.serial) o ≡ Some k → o ≡ Some a
    by_found None e first = absurd (cc)
    by_found (Some b) e first =
        let there : activity_at b.serial works ≡ Some b = (ready_found is_ready 0 works b order e).1 in
        let own : b.serial ≡ k = cc in
        sym (sym at ∙ ap (λ (i : ℕ). activity_at i works) (sym own) ∙ there)

pub ready_goes : (works : List Activity) (k : ℕ) (a : Activity) → InOrder 0 works → first_ready works ≡ Some k → activity_at k works ≡ Some a → is_waiting (phase_walk a.phase) ≡ false
ready_goes works k a order first at = by_wait (is_waiting (phase_walk a.phase)) (find_passes is_ready works a (ready_is works k a order first at))
  where
    by_wait : (b : Bool) → not b ≡ true → b ≡ false
    by_wait true e = absurd (cc)
    by_wait false e = refl

-- it is there
pub ready_there : (works : List Activity) (k : ℕ) → InOrder 0 works → first_ready works ≡ Some k → activity_at k works ≡ None → ⊥
ready_there works k order first gone = by_found (find is_ready works) refl first
  where
    by_found : (o : Option Activity) → find is_ready works ≡ o → option_map (λ (x : Activity). x.serial) o ≡ Some k → ⊥
    by_found None e first = cc
    by_found (Some b) e first =
        let there : activity_at b.serial works ≡ Some b = (ready_found is_ready 0 works b order e).1 in
        let own : b.serial ≡ k = cc in
        let same : Some b ≡ None = sym there ∙ ap (λ (i : ℕ). activity_at i works) own ∙ gone in
        cc

none_ready : (works : List Activity) → first_ready works ≡ None → find is_ready works ≡ None
none_ready works e = by_found (find is_ready works) refl e
  where
    by_found : (o : Option Activity) → find is_ready works ≡ o → option_map (λ (x : Activity). x.serial) o ≡ None → o ≡ None
    by_found None is e = refl
    by_found (Some a) is e = absurd (cc)

-- whoever is told has a name
pub named_if : (s : State) → IsOfRun s → (result : Option Query) → option_map query_of result ≡ next_query s → IfSome result (λ q. IsNamed s.core.rack q.driver)
named_if s run None e = tt
named_if s run (Some q) e = query_named s run (query_of q) (sym e)

module _ (ds : Devices) (rack : List Driver) (disabled : List Text) (works : List Activity) (tasks : List Task) (s : State) (run : IsOfRun s) (o : Option Operation)
    (is : state_of ds rack disabled works (option_map operation_of o) tasks ≡ s) where
  -- what depends on a device directly tells whether it stays behind
  pub directly : (p : Operation) → o ≡ Some p → course_of (operation_of p).kind ≡ Course.Surprising → DirectSays ds.tree.nodes ds.relations (operation_of p) (operation_of p).stage
  directly p runs course = (surprise_needs ds rack disabled works tasks s run (operation_of p) (was_is ds rack disabled works tasks s o p is runs) course).1

  pub operation_told : (p : Operation) → o ≡ Some p → (q : Option asks.Query) → q ≡ operation_query (core_with ds rack) ds.handles (operation_of p) (is_waiting (operation_of p).walk) → q ≡ next_query s
  operation_told p runs q h = h ∙ ap next_query (was_is ds rack disabled works tasks s o p is runs)

  idle_is : o ≡ None → idle_query ds.tree.nodes (find is_ready works) ≡ next_query s
  idle_is none = ap (λ (x : Option Operation). next_query (state_of ds rack disabled works (option_map operation_of x) tasks)) (sym none) ∙ ap next_query is

  pub start_told : o ≡ None → (k : ℕ) (a : Activity) → InOrder 0 works → first_ready works ≡ Some k → activity_at k works ≡ Some a → (q : Option asks.Query) → q ≡ activity_query a (node_at a.serial ds.tree.nodes) → q ≡ next_query s
  start_told none k a order first at q h = h ∙ ap (idle_query ds.tree.nodes) (sym (ready_is works k a order first at)) ∙ idle_is none

  pub nobody_told : o ≡ None → first_ready works ≡ None → None ≡ next_query s
  nobody_told none first = ap (idle_query ds.tree.nodes) (sym (none_ready works first)) ∙ idle_is none
