-- The task that starts a device, as the machine's step.
use Rattle.std.proofs.Common.{◌≡◌, ℕ, Bool, true, false, ◌&&◌, List, drop, Option, Some, None, is_none, refl, sym, ◌∙◌, ap, subst}
use Rattle.pnp_labels.specs.declared.label.Label.{Label}
use Rattle.pnp_labels.specs.declared.states.DevState.{DevState}
use Rattle.pnp_labels.specs.declared.states.DevState.TheVariants.{NoStack, NotStarted, Started, StopPending, Stopped, RemovePending, SurpriseRemoved}
use Rattle.inf_reader.specs.declared.parts.Inf.{Inf}
use Rattle.pnp_model.specs.Cores.{node_at}
use Rattle.pnp_model.specs.Records.{Node, Driver, Activity, Job, Settings, State, Step, Task}
use Rattle.pnp_model.specs.Records.Duty.{Starting}
use Rattle.pnp_model.specs.States.{activity_at, entered}
use Rattle.pnp_model.specs.Tasks.{skip, start_step, start_bare, start_idle, start_enabled}
use Rattle.pnp_model.specs.Tests.{is_no_stack, has_same}
use Rattle.pnp_labels.specs.Texts.{Text}
use Rattle.pnp_laws.proofs.Lookups.{own_serial}
use Rattle.start_sequence.specs.Begins.{settings_of, BegunFor, begun}
use Rattle.pnp_machine.specs.Devices.{Devices}
use Rattle.pnp_machine.specs.Machines.{state_of, IsDone, is_idle, can_start, is_disabled, is_disabled_node}
use Rattle.pnp_machine.proofs.ActSteps.{with_nodes}

pub start_skipped : (settings : Settings) (s : State) (k : ℕ) (label : Label) (t : State) → can_start k s ≡ false → IsDone (skip Starting k s) label t
    → IsDone (start_step settings s k (node_at k s.core.nodes)) label t
start_skipped settings s k label t busy h = by_node (node_at k s.core.nodes) refl busy
  where
    by_node : (o : Option Node) → node_at k s.core.nodes ≡ o → is_idle o (activity_at k s.activities) ≡ false → IsDone (start_step settings s k o) label t
    by_node None e b = h
    by_node (Some n) e b = by_state n.state refl
      where
        own : n.serial ≡ k
        own = own_serial k n s.core.nodes e

        skipped : IsDone (skip Starting n.serial s) label t
        skipped = subst (λ i. IsDone (skip Starting i s) label t) (sym own) h

        by_work : (w : Option Activity) → activity_at k s.activities ≡ w → (is_no_stack n.state && is_none w) ≡ false → n.state ≡ NoStack → IsDone (start_idle settings s n w) label t
        by_work (Some a) e2 g q = skipped
        by_work None e2 g q = absurd (let g2 = subst (λ x. (is_no_stack x && true) ≡ false) q g in cc)

        by_state : (state : DevState) → n.state ≡ state → IsDone (start_bare settings s n state) label t
        by_state NoStack q =
            subst (λ i. IsDone (start_idle settings s n (activity_at i s.activities)) label t) (sym own) (by_work (activity_at k s.activities) refl b q)
        by_state NotStarted q = skipped
        by_state Started q = skipped
        by_state StopPending q = skipped
        by_state Stopped q = skipped
        by_state RemovePending q = skipped
        by_state SurpriseRemoved q = skipped

-- it is there, without drivers and without a start
pub record CanStart (s : State) (k : ℕ) : Type 0 where
  pub node : Node
  pub at : node_at k s.core.nodes ≡ Some node
  pub bare : node.state ≡ NoStack
  pub idle : activity_at k s.activities ≡ None

pub can : (s : State) (k : ℕ) → can_start k s ≡ true → CanStart s k
can s k h = by_node (node_at k s.core.nodes) refl h
  where
    by_node : (o : Option Node) → node_at k s.core.nodes ≡ o → is_idle o (activity_at k s.activities) ≡ true → CanStart s k
    by_node None e b = absurd (cc)
    by_node (Some n) e b = by_state n.state refl b
      where
        none_is : (w : Option Activity) → is_none w ≡ true → w ≡ None
        none_is None g = refl
        none_is (Some a) g = absurd (cc)

        and_first : (x y : Bool) → (x && y) ≡ true → y ≡ true
        and_first true y g = g
        and_first false y g = absurd (no_and y g)
          where
            no_and : (y : Bool) → (false && y) ≡ true → ⊥
            no_and true g = cc
            no_and false g = cc

        no_and : (y : Bool) → (false && y) ≡ true → ⊥
        no_and true g = cc
        no_and false g = cc

        by_state : (state : DevState) → n.state ≡ state → (is_no_stack state && is_none (activity_at k s.activities)) ≡ true → CanStart s k
        by_state NoStack q g =
            record { node = n; at = e; bare = q; idle = none_is (activity_at k s.activities) (and_first true (is_none (activity_at k s.activities)) g) }
        by_state NotStarted q g = absurd (no_and (is_none (activity_at k s.activities)) g)
        by_state Started q g = absurd (no_and (is_none (activity_at k s.activities)) g)
        by_state StopPending q g = absurd (no_and (is_none (activity_at k s.activities)) g)
        by_state Stopped q g = absurd (no_and (is_none (activity_at k s.activities)) g)
        by_state RemovePending q g = absurd (no_and (is_none (activity_at k s.activities)) g)
        by_state SurpriseRemoved q g = absurd (no_and (is_none (activity_at k s.activities)) g)

-- the starts after a begin
abbrev pub works_begun : Option Activity → List Activity → List Activity
works_begun None works = works
works_begun (Some a) works = entered a works

module _ (ds ds' : Devices) (rack : List Driver) (paths : List Text) (works works' : List Activity) (operation : Option Job) (tasks tasks' : List Task)
    (stays : ds' ≡ with_nodes ds ds'.tree.nodes) where
  abbrev s : State
  s = state_of ds rack paths works operation tasks

  after_is : (work : Option Activity) → works' ≡ works_begun work works → tasks' ≡ drop 1 tasks → state_of ds' rack paths works' operation tasks' ≡ begun s work ds'.tree.nodes
  after_is None works_is tasks_is =
      ap (λ d. state_of d rack paths works' operation tasks') stays ∙ ap (λ w. state_of (with_nodes ds ds'.tree.nodes) rack paths w operation tasks') works_is
      ∙ ap (state_of (with_nodes ds ds'.tree.nodes) rack paths works operation) tasks_is
  after_is (Some a) works_is tasks_is =
      ap (λ d. state_of d rack paths works' operation tasks') stays ∙ ap (λ w. state_of (with_nodes ds ds'.tree.nodes) rack paths w operation tasks') works_is
      ∙ ap (state_of (with_nodes ds ds'.tree.nodes) rack paths (entered a works) operation) tasks_is

  pub started : (infs : List Inf) (k : ℕ) (disabled : Bool) (label : Label) (work : Option Activity) → can_start k s ≡ true → disabled ≡ is_disabled k s
      → ((budget : ℕ) (t : State) → t.core.rack ≡ rack → t.core.nodes ≡ ds.tree.nodes → BegunFor (settings_of infs budget) t (node_at k ds.tree.nodes) disabled label work ds'.tree.nodes)
      → works' ≡ works_begun work works → tasks' ≡ drop 1 tasks
      → (budget : ℕ) → IsDone (start_step (settings_of infs budget) s k (node_at k ds.tree.nodes)) label (state_of ds' rack paths works' operation tasks')
  started infs k disabled label work idle disabled_is begins works_is tasks_is budget =
      let c = can s k idle in
      let settings = settings_of infs budget in
      let own : c.node.serial ≡ k = own_serial k c.node ds.tree.nodes c.at in
      let by = subst (λ o. BegunFor settings s o disabled label work ds'.tree.nodes) c.at (begins budget s refl refl) in
      let same : state_of ds' rack paths works' operation tasks' ≡ begun s work ds'.tree.nodes = after_is work works_is tasks_is in
      let alone : activity_at c.node.serial works ≡ None = subst (λ i. activity_at i works ≡ None) (sym own) c.idle in
      let shut : has_same c.node.path paths ≡ disabled = sym (disabled_is ∙ ap (λ o. is_disabled_node o paths) c.at) in
      let step : start_step settings s k (node_at k ds.tree.nodes) ≡ start_enabled settings s c.node disabled =
      ap (start_step settings s k) c.at ∙ ap (start_bare settings s c.node) c.bare ∙ ap (start_idle settings s c.node) alone ∙ ap (start_enabled settings s c.node) shut in
      let is = step ∙ by in
      (sym (ap (λ (x : Step). x.label) is), same ∙ sym (ap (λ (x : Step). x.state) is))
