-- What removal and surprise share: devices are finished one after another.
use Rattle.std.proofs.Common.{ℕ, ◌≡◌, ◌≢◌, ◌==◌, ◌⊎◌, inl, inr, Bool, true, false, List, [], ◌∷◌, ◌++◌, Option, Some, None, refl, sym, ap, ◌∙◌, subst, arith}
use Rattle.std.proofs.lemmas.Bool.{cases_eq}
use Rattle.std.proofs.lemmas.Bool.Decides.{nat_tests}
use Rattle.std.specs.Option.{option_map}
use Rattle.pnp_model.specs.Keyed.{changed_first, without_first}
use Rattle.pnp_model.specs.Records.{Node, Device, Duty, State, Task}
use Rattle.pnp_model.specs.Cores.{is_node, node_at, stack_of, bare}
use Rattle.pnp_model.specs.States.{relist, relist_device, relist_other, list_node, device_of, node_born}
use Rattle.pnp_model.specs.Tests.{has, is_no_stack}
use Rattle.pnp_model.specs.Frames.{rest}
use Rattle.pnp_laws.specs.Kept.{Each, HasStackOf, is_removable, is_stripped_next, finishing_state, settling_state, removing_state}
use Rattle.pnp_model.specs.Diagram.{Row}
use Rattle.pnp_model.specs.Diagram.Row.{remove, remove_pending, remove_surprised}
use Rattle.pnp_labels.specs.declared.states.DevState.{DevState}
use Rattle.pnp_labels.specs.declared.words.Minor.{Minor}
use Rattle.pnp_labels.specs.declared.states.DevState.TheVariants.{NoStack, NotStarted, RemovePending, SurpriseRemoved}
use Rattle.pnp_laws.proofs.Lookups.{node_changed_same, node_changed_other, left_other}
use Rattle.pnp_laws.proofs.Lists.{HeadIs}

pub is_NoStack : (x : DevState) → is_no_stack x ≡ true → x ≡ NoStack
is_NoStack NoStack h = refl
is_NoStack _ h = cc

with_drivers : (x : DevState) → x ≢ NoStack → is_removable x ≡ true → is_stripped_next x ≡ true
with_drivers NoStack d h = absurd (d refl)
with_drivers NotStarted d h = refl
with_drivers RemovePending d h = refl
with_drivers SurpriseRemoved d h = refl
with_drivers _ d h = cc

pub strips : (x : DevState) → is_stripped_next x ≡ true → Row x Minor.Remove false NoStack
strips NotStarted h = remove
strips RemovePending h = remove_pending
strips SurpriseRemoved h = remove_surprised
strips _ h = absurd (cc)

abbrev pub StacksFit : List Node → Type 0
StacksFit nodes = (k : ℕ) (n : Node) → node_at k nodes ≡ Some n → HasStackOf k n.state n.stack

settle_one : (k j : ℕ) (ks : List ℕ) (nodes : List Node) (n : Node) → StacksFit nodes → k ≢ 0 → stack_of (node_at k nodes) ≡ [] → node_at j nodes ≡ Some n →
    finishing_state (k ∷ ks) j n.state ≡ true → settling_state (k ∷ ks) j n.state ≡ true
settle_one k j ks nodes n stacks up bare at h =
    elim (cases_eq k j) [
      | inl e ↦
          let at_k = subst (λ (i : ℕ). node_at i nodes ≡ Some n) (sym e) at in
          let none = (stacks k n at_k).some up (sym (ap stack_of at_k) ∙ bare) in
          let state = ap is_no_stack none in
          grind (arith, nat_tests)
      | inr d ↦ grind (arith, nat_tests)
    ]

pub settle_each : (k : ℕ) (ks : List ℕ) (nodes : List Node) → StacksFit nodes → k ≢ 0 → stack_of (node_at k nodes) ≡ [] →
    Each (finishing_state (k ∷ ks)) nodes → Each (settling_state (k ∷ ks)) nodes
settle_each k ks nodes stacks up bare each j n at = settle_one k j ks nodes n stacks up bare at (each j n at)

remove_one : (k j : ℕ) (ks : List ℕ) (nodes : List Node) (n : Node) (d : ℕ) (ds : List ℕ) → StacksFit nodes → stack_of (node_at k nodes) ≡ d ∷ ds → node_at j nodes ≡ Some n →
    finishing_state (k ∷ ks) j n.state ≡ true → removing_state (k ∷ ks) j n.state ≡ true
remove_one k j ks nodes n d ds stacks full at h =
    elim (cases_eq k j) [
      | inl e ↦
          let at_k = subst (λ (i : ℕ). node_at i nodes ≡ Some n) (sym e) at in
          let own : n.stack ≡ d ∷ ds = sym (ap stack_of at_k) ∙ full in
          let up : n.state ≢ NoStack = λ z. let none = (stacks k n at_k).none z in cc in
          let here : is_removable n.state ≡ true = grind (arith, nat_tests) in
          let state = with_drivers n.state up here in
          grind (arith, nat_tests)
      | inr d ↦ grind (arith, nat_tests)
    ]

pub remove_each : (k : ℕ) (ks : List ℕ) (nodes : List Node) (d : ℕ) (ds : List ℕ) → StacksFit nodes → stack_of (node_at k nodes) ≡ d ∷ ds →
    Each (finishing_state (k ∷ ks)) nodes → Each (removing_state (k ∷ ks)) nodes
remove_each k ks nodes d ds stacks full each j n at = remove_one k j ks nodes n d ds stacks full at (each j n at)

-- the head of what is to do

pub head_same : (todo : List ℕ) (j k : ℕ) → HeadIs j todo → HeadIs k todo → j ≡ k
head_same [] j k a b = absurd a
head_same (i ∷ is) j k a b = sym a ∙ b

pub head_stripped : (todo : List ℕ) (j : ℕ) (x : DevState) → HeadIs j todo → removing_state todo j x ≡ true → is_stripped_next x ≡ true
head_stripped [] j x h g = absurd h
head_stripped (i ∷ is) j x h g = grind (arith, nat_tests)

pub head_bare : (todo : List ℕ) (j : ℕ) (x : DevState) → HeadIs j todo → settling_state todo j x ≡ true → x ≡ NoStack
head_bare [] j x h g = absurd h
head_bare (i ∷ is) j x h g = is_NoStack x (grind (arith, nat_tests))

-- the REMOVE walk of the head ends
pub stripped_here : (todo : List ℕ) (j : ℕ) → HeadIs j todo → settling_state todo j NoStack ≡ true
stripped_here [] j h = absurd h
stripped_here (i ∷ is) j h = grind (arith, nat_tests)

pub stripped_there : (todo : List ℕ) (j k : ℕ) (x : DevState) → HeadIs j todo → j ≢ k → removing_state todo k x ≡ true → settling_state todo k x ≡ true
stripped_there [] j k x h d g = absurd h
stripped_there (i ∷ is) j k x h d g = grind (arith, nat_tests)

-- the head is settled, and the rest is still to be finished
pub settled_there : (todo : List ℕ) (j k : ℕ) (x : DevState) → HeadIs j todo → j ≢ k → settling_state todo k x ≡ true → finishing_state (rest todo) k x ≡ true
settled_there [] j k x h d g = absurd h
settled_there (i ∷ is) j k x h d g = grind (arith, nat_tests)

pub calm_here : (todo : List ℕ) (j : ℕ) → has todo j ≡ false → finishing_state todo j NoStack ≡ true
calm_here todo j h = grind (arith)

-- stacks of others

map_stack : (f : Node → Node) (o : Option Node) → ((n : Node) → (f n).stack ≡ n.stack) → stack_of (option_map f o) ≡ stack_of o
map_stack f None keeps = refl
map_stack f (Some n) keeps = keeps n

pub stack_kept : (j k : ℕ) (f : Node → Node) (nodes : List Node) → ((n : Node) → (f n).serial ≡ n.serial) → ((n : Node) → (f n).stack ≡ n.stack) →
    stack_of (node_at k (changed_first (is_node j) f nodes)) ≡ stack_of (node_at k nodes)
stack_kept j k f nodes keeps stack =
    elim (cases_eq j k) [
      | inl e ↦
          subst (λ (i : ℕ). stack_of (node_at k (changed_first (is_node i) f nodes)) ≡ stack_of (node_at k nodes)) (sym e)
          (ap stack_of (node_changed_same k f nodes keeps) ∙ map_stack f (node_at k nodes) stack)
      | inr d ↦ ap stack_of (node_changed_other j k f nodes keeps d)
    ]

pub stack_left : (j k : ℕ) (nodes : List Node) → j ≢ k → stack_of (node_at k (without_first (is_node j) nodes)) ≡ stack_of (node_at k nodes)
stack_left j k nodes d = ap stack_of (left_other j k nodes d)

-- listing again changes tasks alone: at most a listing is added

abbrev pub Listed : List Task → List Task → Type 0
Listed tasks more = (more ≡ tasks) ⊎ ((k : ℕ) × (more ≡ tasks ++ record { kind = Duty.Listing; serial = k } ∷ []))

pub record OnlyTasks (s t : State) : Type 0 where
  pub serial : t.next_serial ≡ s.next_serial
  pub core : t.core ≡ s.core
  pub nodes : t.core.nodes ≡ s.core.nodes
  pub activities : t.activities ≡ s.activities
  pub operation : t.operation ≡ s.operation
  pub world : t.world ≡ s.world
  pub births : t.next_born ≡ s.next_born
  pub paths : t.disabled ≡ s.disabled
  pub windows : t.windows ≡ s.windows
  pub handles : t.handles ≡ s.handles
  pub tasks : Listed s.tasks t.tasks

same_only : (s : State) → OnlyTasks s s
same_only s = record { serial = refl; core = refl; nodes = refl; activities = refl; operation = refl; world = refl; births = refl; paths = refl; windows = refl; handles = refl; tasks = inl refl }

pub list_only : (o : Option Node) (s : State) → OnlyTasks s (list_node o s)
list_only None s = same_only s
list_only (Some n) s = record { serial = refl; core = refl; nodes = refl; activities = refl; operation = refl; world = refl; births = refl; paths = refl; windows = refl; handles = refl; tasks = inr (n.serial, refl) }

pub relist_only : (path : List ℕ) (born : ℕ) (s : State) → OnlyTasks s (relist path born s)
relist_only path born s = by_device (device_of path s.world)
  where
    by_other : (d : Device) (b : Bool) → OnlyTasks s (relist_other d b s)
    by_other d true = same_only s
    by_other d false = list_only (node_born d.parent s.core.nodes) s

    by_device : (o : Option Device) → OnlyTasks s (relist_device born o s)
    by_device None = same_only s
    by_device (Some d) = by_other d (d.born == born)
