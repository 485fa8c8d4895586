-- A step of the task that lists a device's children, as the machine's step.
use Rattle.std.proofs.Common.{◌≡◌, ℕ, Bool, true, false, ◌&&◌, cond, if◌then◌else◌, find, List, [], ◌∷◌, Option, Some, None, Result, Ok, Err, IfOk, option_map, refl, sym, ◌∙◌, ap, subst}
use Rattle.pnp_labels.specs.Texts.{Text}
use Rattle.pnp_labels.specs.declared.label.Label.{Label}
use Rattle.pnp_labels.specs.declared.states.DevState.{DevState}
use Rattle.pnp_labels.specs.declared.states.DevState.TheVariants.{NoStack, NotStarted, Started, StopPending, Stopped, RemovePending, SurpriseRemoved}
use Rattle.pnp_model.specs.Cores.{node_at, serials_of}
use Rattle.pnp_model.specs.Keyed.{those}
use Rattle.pnp_model.specs.Trees.{children, is_child}
use Rattle.pnp_model.specs.Records.{Node, Driver, Activity, Job, State, Step, Task}
use Rattle.std.specs.declared.alloc.AllocError.{AllocError}
use Rattle.pnp_labels.specs.declared.label.OpKind.{OpKind}
use Rattle.pnp_model.specs.Records.Duty.{Listing, Begins}
use Rattle.pnp_model.specs.States.{append_task}
use Rattle.pnp_model.specs.Tasks.{skip, list_step, list_up, join_or_on, gone_or_listed, gone_child, is_gone, joining}
use Rattle.pnp_model.specs.Tests.{is_started}
use Rattle.pnp_laws.proofs.Lookups.{own_serial}
use Rattle.devnode_tree.specs.Trees.{Ascends}
use Rattle.script_bus.proofs.Unplugs.{by_bool}
use Rattle.pnp_machine.proofs.EventSteps.{found_serial}
use Rattle.pnp_machine.specs.Devices.{Devices, JoinedFor}
use Rattle.pnp_machine.specs.Machines.{state_of, IsDone, gone_or_listed_at, gone_or_listed_path}

pub list_none : (s : State) (k : ℕ) (label : Label) (t : State) → node_at k s.core.nodes ≡ None → IsDone (skip Listing k s) label t
    → IsDone (list_step s k (node_at k s.core.nodes)) label t
list_none s k label t none h = subst (λ o. IsDone (list_step s k o) label t) (sym none) h

pub list_down : (s : State) (k : ℕ) (n : Node) (label : Label) (t : State) → node_at k s.core.nodes ≡ Some n → is_started n.state ≡ false → IsDone (skip Listing k s) label t
    → IsDone (list_step s k (node_at k s.core.nodes)) label t
list_down s k n label t at down h =
    let own : n.serial ≡ k = own_serial k n s.core.nodes at in
    subst (λ o. IsDone (list_step s k o) label t) (sym at) (by_state n.state refl)
  where
    skipped : IsDone (skip Listing n.serial s) label t
    skipped = subst (λ i. IsDone (skip Listing i s) label t) (sym (own_serial k n s.core.nodes at)) h

    by_state : (state : DevState) → n.state ≡ state → IsDone (list_up s n state) label t
    by_state NoStack e = skipped
    by_state NotStarted e = skipped
    by_state Started e = absurd (let up = ap is_started e in cc)
    by_state StopPending e = skipped
    by_state Stopped e = skipped
    by_state RemovePending e = skipped
    by_state SurpriseRemoved e = skipped

pub started_is : (state : DevState) → is_started state ≡ true → state ≡ Started
started_is NoStack up = absurd (cc)
started_is NotStarted up = absurd (cc)
started_is Started up = refl
started_is StopPending up = absurd (cc)
started_is Stopped up = absurd (cc)
started_is RemovePending up = absurd (cc)
started_is SurpriseRemoved up = absurd (cc)

-- What a listing does where no device joins ------------------------------------------------

module _ (s : State) (k : ℕ) (n : Node) (at : node_at k s.core.nodes ≡ Some n) (up : n.state ≡ Started) where
  on_started : (step : Step) (label : Label) (t : State) → join_or_on s n (joining n.born s.core.nodes s.world) ≡ step → IsDone step label t
      → IsDone (list_step s k (node_at k s.core.nodes)) label t
  on_started step label t is h =
      subst (λ o. IsDone (list_step s k o) label t) (sym at)
      (subst (λ state. IsDone (list_up s n state) label t) (sym up) (subst (λ x. IsDone x label t) (sym is) h))

  by_gone : (o : Option Node) → gone_or_listed s n o ≡ gone_or_listed_path s n.path o
  by_gone None = refl
  by_gone (Some child) = refl

  pub list_on : (label : Label) (t : State) → joining n.born s.core.nodes s.world ≡ None → IsDone (gone_or_listed_at s k n.path) label t
      → IsDone (list_step s k (node_at k s.core.nodes)) label t
  list_on label t none h =
      on_started (gone_or_listed s n (gone_child s n.serial)) label t (ap (join_or_on s n) none)
      (subst (λ x. IsDone x label t) (sym (by_gone (gone_child s n.serial) ∙ ap (λ i. gone_or_listed_at s i n.path) (own_serial k n s.core.nodes at))) h)

module _ (ds ds' : Devices) (rack : List Driver) (disabled : List Text) (works : List Activity) (operation : Option Job) (tasks tasks' : List Task) (k : ℕ) (n : Node)
    (at : node_at k ds.tree.nodes ≡ Some n) (up : n.state ≡ Started) where
  abbrev s : State
  s = state_of ds rack disabled works operation tasks

  -- none joins, and nothing has changed
  pub none_joins : JoinedFor (node_at k ds.tree.nodes) None ds ds' → (joining n.born ds.tree.nodes ds.world.devices ≡ None) × (ds' ≡ ds)
  none_joins h = subst (λ o. JoinedFor o None ds ds') at h

-- The child that is gone ---------------------------------------------------------------------

find_those : {A : Type 0} (p q : A → Bool) (xs : List A) → find p (those q xs) ≡ find (λ x. q x && p x) xs
find_those p q [] = refl
find_those p q (x ∷ xs) =
    by_bool (λ b. find p (if b then x ∷ those q xs else those q xs) ≡ cond (b && p x) (Some x) (find (λ y. q y && p y) xs)) (q x)
    (λ e. ap (cond (p x) (Some x)) (find_those p q xs)) (λ e. find_those p q xs)

-- it is there, by its serial
pub record GoneAt (nodes : List Node) (test : Node → Bool) (k child : ℕ) : Type 0 where
  pub node : Node
  pub found : find test (children k nodes) ≡ Some node
  pub own : node.serial ≡ child
  pub at : node_at child nodes ≡ Some node

pub gone_at : (test : Node → Bool) (k child : ℕ) (nodes : List Node) → Ascends 0 (serials_of nodes) → Some child ≡ option_map (λ n. n.serial) (find test (children k nodes)) → GoneAt nodes test k child
gone_at test k child nodes asc h = by_found (find test (children k nodes)) refl h
  where
    by_found : (o : Option Node) → find test (children k nodes) ≡ o → Some child ≡ option_map (λ n. n.serial) o → GoneAt nodes test k child
    by_found None e h = absurd (cc)
    by_found (Some n) e h =
        let own : n.serial ≡ child = cc in
        let there = (found_serial (λ x. is_child k x && test x) 0 nodes n asc (sym (find_those test (is_child k) nodes) ∙ e)).1 in
        record { node = n; found = e; own = own; at = subst (λ i. node_at i nodes ≡ Some n) own there }

-- its surprise removal becomes due
pub gone_is : (s t : State) (k child : ℕ) (path own : Text) (gone : GoneAt s.core.nodes (is_gone s) k child) → own ≡ gone.node.path → t ≡ append_task (Begins OpKind.Surprise) child s
    → IsDone (gone_or_listed_at s k path) (Label.Gone own) t
gone_is s t k child path own gone shows is =
    subst (λ o. IsDone (gone_or_listed_path s path o) (Label.Gone own) t) (sym gone.found)
    (ap Label.Gone shows, is ∙ ap (λ i. append_task (Begins OpKind.Surprise) i s) (sym gone.own))

-- where none joins, what the rest of the step does is what the whole does
pub list_ended : (r : Result Label AllocError) (s mid t : State) (k : ℕ) (n : Node) (path : Text) → node_at k s.core.nodes ≡ Some n → n.state ≡ Started → joining n.born s.core.nodes s.world ≡ None → mid ≡ s
    → path ≡ n.path → IfOk r (λ label. IsDone (gone_or_listed_at mid k path) label t) → IfOk r (λ label. IsDone (list_step s k (node_at k s.core.nodes)) label t)
list_ended (Ok label) s mid t k n path at up none same own h =
    list_on s k n at up label t none (subst (λ x. IsDone (gone_or_listed_at s k x) label t) own (subst (λ x. IsDone (gone_or_listed_at x k path) label t) same h))
list_ended (Err refused) s mid t k n path at up none same own h = tt
