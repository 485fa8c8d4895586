-- Who stands on whom outside operations, and why a device that has gone is still there at rest.
use Rattle.std.proofs.Common.{ℕ, zero, suc, ◌<◌, ◌≡◌, ◌≢◌, ◌==◌, ◌&&◌, ◌||◌, not, inl, inr, Bool, true, false, cond, List, [], ◌∷◌, Option, Some, None, refl, sym, ap, subst, ◌∙◌, arith}
use Rattle.std.proofs.lemmas.Bool.Decides.{nat_tests}
use Rattle.std.specs.List.{find, list_any, slice_get}
use Rattle.pnp_labels.specs.declared.states.DevState.{DevState}
use Rattle.pnp_labels.specs.declared.states.DevState.TheVariants.{NoStack, NotStarted, Started, StopPending, Stopped, RemovePending, SurpriseRemoved}
use Rattle.pnp_model.specs.Cores.{node_at}
use Rattle.pnp_model.specs.Handles.{has_drivers, holds_back, is_open, is_ready_device}
use Rattle.pnp_model.specs.Records.{Activity, Driver, Duty, Job, Node, Settings, State, Task}
use Rattle.pnp_model.specs.Laws.{Reaches}
use Rattle.pnp_model.specs.Runs.{Entry}
use Rattle.pnp_model.specs.Tests.{has, is_surprise_removed}
use Rattle.pnp_model.specs.Trees.{above, hangs_on}
use Rattle.pnp_laws.specs.Due.{is_due}
use Rattle.pnp_laws.specs.Kept.{Ascending, OperationFits, is_calm, is_idle}
use Rattle.pnp_laws.specs.Quiet.{Delays, NoTask, RestsWith}
use Rattle.pnp_laws.specs.Waiting.{NeitherRuns, Told, is_to_finish}
use Rattle.pnp_laws.proofs.Due.{no_due}
use Rattle.pnp_laws.proofs.Lookups.{find_passes, node_found, own_serial}
use Rattle.pnp_laws.proofs.RunsReady.{ready_ones_are_due}
use Rattle.pnp_laws.proofs.RunsStand.{Kept, reaches_kept}
use Rattle.pnp_laws.proofs.RunsStrays.{nobody_is_forgotten}
use Rattle.pnp_laws.proofs.RunsStep.{quiet_where_it_rests}
use Rattle.pnp_laws.proofs.Standing.{ToldKept}
use Rattle.pnp_laws.proofs.Truths.{and_both, or_left}
use Rattle.pnp_promises.proofs.Words.{edge_depends}
use Rattle.pnp_promises.specs.AtRest.{IsAtRest, IsHeldOpen, IsUpOrDue, AtRestWhoHasGoneIsHeldOpenLaw, RestsWell, WhoIsUpStandsOnWhatIsUpLaw}
use Rattle.pnp_promises.specs.Words.{DependsOn}

-- a node that passes, where one does
any_found : (p : Node → Bool) (xs : List Node) → list_any p xs ≡ true → (x : Node) × (find p xs ≡ Some x)
any_found p [] h = absurd (cc)
any_found p (x ∷ xs) h = by_first (p x) (any_found p xs) h
  where
    by_first : (b : Bool) → (list_any p xs ≡ true → (y : Node) × (find p xs ≡ Some y)) → (b || list_any p xs) ≡ true → (y : Node) × (cond b (Some x) (find p xs) ≡ Some y)
    by_first true more h = (x, refl)
    by_first false more h = more h

any_node : (p : Node → Bool) (xs : List Node) → Ascending 0 xs → list_any p xs ≡ true → (x : Node) × (node_at x.serial xs ≡ Some x) × (p x ≡ true)
any_node p xs order h = let some = any_found p xs h in (some.0, (node_found p 0 xs some.0 order some.1).1, find_passes p xs some.0 some.1)

-- Who is up stands on one that is up ---------------------------------------------------------------------

module _ (s : State) (all : Kept s) (none : s.operation ≡ None) where
  calm : (k : ℕ) (n : Node) → node_at k s.core.nodes ≡ Some n → is_calm n.state ≡ true
  calm = subst (λ (x : Option Job). OperationFits x s.core.nodes) none all.good.fits

  calm_told : Told s.core
  calm_told = subst (λ (x : Option Job). ToldKept x s.core) none all.waits.told

  below_hangs : (k : ℕ) (n : Node) → node_at k s.core.nodes ≡ Some n → k ≢ 0 → hangs_on s.core (n.parent ∷ []) n ≡ true
  below_hangs k n at other =
      let own = own_serial k n s.core.nodes at in
      or_left (has (n.parent ∷ []) n.parent && not (n.serial == 0)) (list_any (λ r. r.member == n.serial && has (n.parent ∷ []) r.owner) s.core.relations) (grind (arith, nat_tests))

  pub stands : ((j : ℕ) (m : Node) → node_at j s.core.nodes ≡ Some m → m.state ≡ Stopped → is_due s.tasks s.core.nodes j ≡ true) → (k : ℕ) (n : Node) → k ≢ 0 → node_at k s.core.nodes ≡ Some n → n.state ≡ Started
      → (p : Node) × (node_at n.parent s.core.nodes ≡ Some p) × IsUpOrDue s p
  stands due k n other at up =
      let parent = (all.stands.tree.rooted k n at other).1 in
      (parent.0, parent.1, by_state parent.0 parent.1 parent.0.state refl)
    where
      hangs : hangs_on s.core (n.parent ∷ []) n ≡ true
      hangs = below_hangs k n at other

      by_state : (p : Node) → node_at n.parent s.core.nodes ≡ Some p → (x : DevState) → p.state ≡ x → IsUpOrDue s p
      by_state p there Started e = inl e
      by_state p there Stopped e = inr (e, subst (λ (i : ℕ). is_due s.tasks s.core.nodes i ≡ true) (sym (own_serial n.parent p s.core.nodes there)) (due n.parent p there e))
      by_state p there NoStack e = absurd (all.stands.tree.idle n.parent p there (ap is_idle e) k n at hangs)
      by_state p there NotStarted e = absurd (all.stands.tree.idle n.parent p there (ap is_idle e) k n at hangs)
      by_state p there StopPending e = absurd (let c = sym (ap is_calm e) ∙ calm n.parent p there in cc)
      by_state p there RemovePending e = absurd (let c = sym (ap is_calm e) ∙ calm n.parent p there in cc)
      by_state p there SurpriseRemoved e = absurd (let told = calm_told n.parent p there e k n at hangs in cc)

pub who_is_up_stands_on_what_is_up : WhoIsUpStandsOnWhatIsUpLaw
who_is_up_stands_on_what_is_up settings rack entries s k n run none other at up =
    stands s (reaches_kept settings rack entries s run) none (nobody_is_forgotten settings rack entries s run none).stopped k n other at up

-- At rest ---------------------------------------------------------------------------------------------------

pub no_task : (settings : Settings) (rack : List Driver) (entries : List Entry) (s : State) → Reaches settings rack entries s → IsAtRest settings s → s.tasks ≡ []
no_task settings rack entries s run rest =
    let rests : RestsWith s None = subst (λ (x : Option Job). RestsWith s x) rest.none ((quiet_where_it_rests settings rack entries s run).0 rest.quiet) in
    by_tasks s.tasks refl (subst (λ (x : List Activity). NoTask (slice_get s.tasks 0) x) rest.idle rests.1)
  where
    no_delay : (task : Task) → Delays task.kind [] → ⊥
    no_delay task h = by_kind task.kind h
      where
        by_kind : (kind : Duty) → Delays kind [] → ⊥
        by_kind Duty.Listing h = h
        by_kind Duty.Starting h = h
        by_kind (Duty.Begins kind) h = h refl

    by_tasks : (tasks : List Task) → s.tasks ≡ tasks → NoTask (slice_get s.tasks 0) [] → s.tasks ≡ []
    by_tasks [] e h = e
    by_tasks (task ∷ tasks) e h = absurd (no_delay task (subst (λ (x : List Task). NoTask (slice_get x 0) []) e h))

module _ (settings : Settings) (rack : List Driver) (entries : List Entry) (s : State) (run : Reaches settings rack entries s) (rest : IsAtRest settings s) where
  all : Kept s
  all = reaches_kept settings rack entries s run

  tasks : s.tasks ≡ []
  tasks = no_task settings rack entries s run rest

  neither : NeitherRuns s.operation
  neither = subst NeitherRuns (sym rest.none) tt

  never_due : (k : ℕ) → is_due s.tasks s.core.nodes k ≡ false
  never_due k = ap (λ (x : List Task). is_due x s.core.nodes k) tasks ∙ no_due (k ∷ above s.core.nodes k)

  none_stopped : (k : ℕ) (n : Node) → node_at k s.core.nodes ≡ Some n → n.state ≢ Stopped
  none_stopped k n at e = let due = (nobody_is_forgotten settings rack entries s run rest.none).stopped k n at e in let never = never_due k in cc

  -- nobody is ready to be finished
  not_ready : (k : ℕ) (n : Node) → node_at k s.core.nodes ≡ Some n → is_ready_device s.core s.handles n ≡ true → ⊥
  not_ready k n at ready =
      let finish : is_to_finish s.tasks k ≡ true = ready_ones_are_due settings rack entries s run neither k n at ready in
      let none : is_to_finish [] k ≡ true = subst (λ (x : List Task). is_to_finish x k ≡ true) tasks finish in
      cc

  -- who has gone has drivers
  drivers : (k : ℕ) (n : Node) → node_at k s.core.nodes ≡ Some n → n.state ≡ SurpriseRemoved → has_drivers n.stack ≡ true
  drivers k n at gone = by_stack n.stack refl
    where
      not_root : k ≢ 0
      not_root z = let up = (all.good.stacks k n at).root z in cc

      by_stack : (stack : List ℕ) → n.stack ≡ stack → has_drivers stack ≡ true
      by_stack (d ∷ ds) e = refl
      by_stack [] e = absurd (let bare = (all.good.stacks k n at).some not_root e in cc)

  -- where neither a handle is open nor anything with drivers hangs on it, it is ready
  is_ready : (n : Node) → n.state ≡ SurpriseRemoved → has_drivers n.stack ≡ true → is_open s.handles n.serial ≡ false → list_any (holds_back s.core n.serial) s.core.nodes ≡ false → is_ready_device s.core s.handles n ≡ true
  is_ready n gone some shut free = by_all (is_surprise_removed n.state) (has_drivers n.stack) (is_open s.handles n.serial) (list_any (holds_back s.core n.serial) s.core.nodes) (ap is_surprise_removed gone) some shut free
    where
      by_all : (a b c d : Bool) → a ≡ true → b ≡ true → c ≡ false → d ≡ false → (a && (b && (not c && not d))) ≡ true
      by_all true true false false e f g h = refl
      by_all a b c d e f g h = cc

  module _ (rank : ℕ → ℕ) (ranked : (k j : ℕ) (m : Node) → node_at j s.core.nodes ≡ Some m → hangs_on s.core (k ∷ []) m ≡ true → rank j < rank k) where
    -- of those of lower rank
    abbrev Lower : ℕ → Type 0
    Lower top = (j : ℕ) (m : Node) → rank j < top → node_at j s.core.nodes ≡ Some m → m.state ≡ SurpriseRemoved → IsHeldOpen s j

    held_by : (top : ℕ) (k : ℕ) (n : Node) → rank k < top → node_at k s.core.nodes ≡ Some n → n.state ≡ SurpriseRemoved → IsHeldOpen s k
    held_by zero k n low at gone = absurd (omega arith)
    held_by (suc top) k n low at gone = by_open (λ j m l there told. held_by top j m l there told) (is_open s.handles k) refl
      where
        own : n.serial ≡ k
        own = own_serial k n s.core.nodes at

        on_one : Lower top → is_open s.handles k ≡ false → (m : Node) → node_at m.serial s.core.nodes ≡ Some m → hangs_on s.core (k ∷ []) m ≡ true → IsHeldOpen s k
        on_one held shut m there hangs =
            let depends : DependsOn s.core k m.serial = edge_depends s.core all.good.serials k m.serial m there hangs in
            let more = held m.serial m (let l = ranked k m.serial m there hangs in omega arith) there (calm_told s all rest.none k n at gone m.serial m there hangs) in
            (more.0, inr (elim more.1 [ inl same ↦ subst (λ (i : ℕ). DependsOn s.core k i) (sym same) depends | inr further ↦ DependsOn.through k m.serial more.0 depends further ]), more.2)

        by_back : Lower top → (b : Bool) → list_any (holds_back s.core k) s.core.nodes ≡ b → is_open s.handles k ≡ false → IsHeldOpen s k
        by_back held true e shut =
            let some = any_node (holds_back s.core k) s.core.nodes all.good.serials e in
            on_one held shut some.0 some.1 (and_both (hangs_on s.core (k ∷ []) some.0) (has_drivers some.0.stack) some.2).0
        by_back held false e shut =
            absurd (not_ready k n at (is_ready n gone (drivers k n at gone) (subst (λ (i : ℕ). is_open s.handles i ≡ false) (sym own) shut) (subst (λ (i : ℕ). list_any (holds_back s.core i) s.core.nodes ≡ false) (sym own) e)))

        by_open : Lower top → (b : Bool) → is_open s.handles k ≡ b → IsHeldOpen s k
        by_open held true e = (k, inl refl, e)
        by_open held false e = by_back held (list_any (holds_back s.core k) s.core.nodes) refl e

  rests_well : RestsWell s
  rests_well = record { none_stopped = none_stopped; held = λ k n at gone. held_by all.stands.tree.rank all.stands.tree.ranked (suc (all.stands.tree.rank k)) k n (omega arith) at gone }

pub at_rest_who_has_gone_is_held_open : AtRestWhoHasGoneIsHeldOpenLaw
at_rest_who_has_gone_is_held_open settings rack entries s run rest = rests_well settings rack entries s run rest
