-- What each state of a run keeps gives what an operation needs of the device that is next.
use Rattle.std.proofs.Common.{◌≡◌, ◌≢◌, ℕ, ◌==◌, Bool, true, false, not, ◌&&◌, cond, List, [], ◌∷◌, Option, Some, None, IfSome, IsSome, is_some, refl, sym, ap, ◌∙◌, subst, arith}
use Rattle.std.proofs.lemmas.Bool.Decides.{nat_tests}
use Rattle.std.specs.List.{list_any}
use Rattle.std.specs.Option.{option_map}
use Rattle.pnp_labels.specs.declared.states.DevState.{DevState}
use Rattle.pnp_labels.specs.declared.states.DevState.TheVariants.{NoStack, NotStarted, Started, StopPending, Stopped, RemovePending, SurpriseRemoved}
use Rattle.pnp_model.specs.Tests.{has, is_no_stack}
use Rattle.pnp_model.specs.Laws.{HoldsWhole}
use Rattle.pnp_model.specs.Cores.{node_at}
use Rattle.pnp_model.specs.Trees.{children, is_child, hangs_on}
use Rattle.pnp_model.specs.Frames.{first_node}
use Rattle.pnp_model.specs.Records.{Node, Core, State, Job, Course, course_of}
use Rattle.pnp_laws.specs.Kept.{Ascending, Each, Within, JobFits, OperationFits, is_calm, at_head, is_removable, settling_state, emptied_state}
use Rattle.pnp_laws.proofs.Lists.{HeadIs, head_found, head_has}
use Rattle.pnp_laws.proofs.Lookups.{none_below, found_self, own_serial}
use Rattle.pnp_laws.proofs.TreeMoves.{Childless}
use Rattle.pnp_laws.proofs.Finishes.{head_childless}
use Rattle.pnp_laws.proofs.Standing.{Tree, Finishes, Goes, HeadAlone, JobKept, StageKept, Kept, kept_by}
use Rattle.pnp_laws.proofs.Truths.{or_left}
use Rattle.operation_frame.specs.Nodes.{IsStripped}

-- a node is found by its own serial
pub own_there : (nodes : List Node) (k serial : ℕ) (node : Node) → Some node ≡ node_at k nodes → serial ≡ node.serial → is_some (node_at serial nodes) ≡ true
own_there nodes k serial node at own = ap (λ j. is_some (node_at j nodes)) own ∙ ap is_some (found_self k nodes node (sym at))

-- what a state of a run keeps of the operation that runs
pub running : (s : State) (o : Job) → Kept s → s.operation ≡ Some o → StageKept (Some o) s.core × OperationFits (Some o) s.core.nodes
running s o kept is =
    (subst (λ (x : Option Job). StageKept x s.core) is kept.stands.stage, subst (λ (x : Option Job). OperationFits x s.core.nodes) is kept.good.fits)

-- by how it goes
pub runs_as : (course : Course) (s : State) (o : Job) → course_of o.kind ≡ course → Kept s → s.operation ≡ Some o → JobKept course o s.core × JobFits course o s.core.nodes
runs_as course s o goes kept is =
    let runs = running s o kept is in
    (kept_by course o s.core goes runs.0, subst (λ (x : Course). JobFits x o s.core.nodes) goes runs.1)

-- what is next is there
pub first_there : (todo : List ℕ) (nodes : List Node) → Goes todo nodes → IsSome (first_node nodes todo)
first_there [] nodes goes = absurd (goes.some refl)
first_there (k ∷ ks) nodes goes = let n = goes.there k (grind (arith, nat_tests)) in subst (λ (o : Option Node). IsSome o) (sym n.1) refl

-- a device without children has an empty list of them
fewer_childless : (lo k : ℕ) (n : Node) (ns : List Node) → Ascending lo (n ∷ ns) → Childless k (n ∷ ns) → Childless k ns
fewer_childless lo k n ns order none i m at up e = by_serial (n.serial == i) refl
  where
    by_serial : (b : Bool) → (n.serial == i) ≡ b → ⊥
    by_serial true s = let below = none_below _ i ns (grind (arith, nat_tests)) order.1 in absurd (cc)
    by_serial false s = none i m (ap (λ b. cond b (Some n) (node_at i ns)) s ∙ at) up e

not_child : (k : ℕ) (n : Node) (ns : List Node) → Childless k (n ∷ ns) → is_child k n ≡ true → ⊥
not_child k n ns none e = none n.serial n (grind (arith, nat_tests)) (λ z. absurd (grind (arith, nat_tests))) (grind (arith, nat_tests))

pub no_children : (lo k : ℕ) (nodes : List Node) → Ascending lo nodes → Childless k nodes → children k nodes ≡ []
no_children lo k [] order none = refl
no_children lo k (n ∷ ns) order none =
    let by_test : (b : Bool) → is_child k n ≡ b → cond b (n ∷ children k ns) (children k ns) ≡ [] =
    λ b. elim b as (λ b. is_child k n ≡ b → cond b (n ∷ children k ns) (children k ns) ≡ []) [
      | true ↦ λ e. absurd (not_child k n ns none e)
      | false ↦ λ e. no_children _ k ns order.1 (fewer_childless lo k n ns order none)
    ] in
    by_test (is_child k n) refl

is_bare : (x : DevState) → is_no_stack x ≡ true → x ≡ NoStack
is_bare NoStack h = refl
is_bare NotStarted h = absurd (cc)
is_bare Started h = absurd (cc)
is_bare StopPending h = absurd (cc)
is_bare Stopped h = absurd (cc)
is_bare RemovePending h = absurd (cc)
is_bare SurpriseRemoved h = absurd (cc)

-- the device that is settled has lost its drivers
pub head_bare : (todo : List ℕ) (j : ℕ) (state : DevState) → HeadIs j todo → settling_state todo j state ≡ true → state ≡ NoStack
head_bare [] j state head h = absurd head
head_bare (i ∷ is) j state head h =
    let here : at_head (i ∷ is) j ≡ true = grind (arith, nat_tests) in
    is_bare state (sym (ap (λ b. cond b (is_no_stack state) (cond (has (i ∷ is) j) (is_removable state) (is_calm state))) here) ∙ h)

-- or it is the one that a finish has taken
pub taken_bare : (todo : List ℕ) (j : ℕ) (state : DevState) → HeadIs j todo → emptied_state todo j state ≡ true → state ≡ NoStack
taken_bare [] j state head h = absurd head
taken_bare (i ∷ is) j state head h =
    let here : at_head (i ∷ is) j ≡ true = grind (arith, nat_tests) in
    is_bare state (sym (ap (λ b. cond b (is_no_stack state) (is_calm state)) here) ∙ h)

-- Where a device may leave ----------------------------------------------------------------------

-- nothing hangs on the device that is next, so it has no children
pub alone_childless : (c : Core) (todo : List ℕ) (k : ℕ) → HeadIs k todo → HeadAlone c todo → Childless k c.nodes
alone_childless c todo k head alone j m at up e = alone k head j m at hangs
  where
    hangs : hangs_on c (k ∷ []) m ≡ true
    hangs =
        let own = own_serial j m c.nodes at in
        or_left (has (k ∷ []) m.parent && not (m.serial == 0)) (list_any (λ r. r.member == m.serial && has (k ∷ []) r.owner) c.relations) (grind (arith, nat_tests))

-- without drivers and children it may leave, where it is not the root
may_leave : (c : Core) (node : Node) → Ascending 0 c.nodes → HoldsWhole c.nodes → node.serial ≢ 0 → node_at node.serial c.nodes ≡ Some node → node.state ≡ NoStack → Childless node.serial c.nodes → IsStripped c.nodes node
may_leave c node order whole up at bare childless = (
  record {
    bare = ap (option_map (λ (n : Node). n.state)) at ∙ ap Some bare;
    no_root = λ z. absurd (up z);
    alone = no_children 0 node.serial c.nodes order childless;
  },
  whole.bare node.serial node at bare,
)

-- what is known of the device that is next, if there is one
at_first : (c : Core) (todo : List ℕ) (P : Node → Type 0) → ((n : Node) → HeadIs n.serial todo → node_at n.serial c.nodes ≡ Some n → P n) → IfSome (first_node c.nodes todo) P
at_first c todo P h = by (first_node c.nodes todo) refl
  where
    by : (x : Option Node) → first_node c.nodes todo ≡ x → IfSome x P
    by None at = tt
    by (Some n) at = let found = head_found c.nodes todo n at in h n found.0 found.1

-- no member of a set without the root is the root
pub not_root : (set : List ℕ) (k : ℕ) → has set 0 ≡ false → has set k ≡ true → k ≢ 0
not_root set k rootless own z = let here = subst (λ (i : ℕ). has set i ≡ true) z own in absurd (cc)

-- what is next may leave, where it has no drivers and nothing hangs on it
pub alone_may_leave : (c : Core) (todo : List ℕ) → Ascending 0 c.nodes → HoldsWhole c.nodes → has todo 0 ≡ false → HeadAlone c todo
    → ((k : ℕ) (n : Node) → HeadIs k todo → node_at k c.nodes ≡ Some n → n.state ≡ NoStack) → IfSome (first_node c.nodes todo) (IsStripped c.nodes)
alone_may_leave c todo order whole rootless alone bare =
    at_first c todo (IsStripped c.nodes)
    (λ n head at. may_leave c n order whole (not_root todo n.serial rootless (head_has n.serial todo head)) at (bare n.serial n head at) (alone_childless c todo n.serial head alone))

-- likewise in leaving order, where it is settled
pub next_may_leave : (next : ℕ) (c : Core) (set todo : List ℕ) → Ascending 0 c.nodes → Tree next c → HoldsWhole c.nodes → has set 0 ≡ false → Within todo set → Finishes c set todo
    → Each (settling_state todo) c.nodes → IfSome (first_node c.nodes todo) (IsStripped c.nodes)
next_may_leave next c set todo order tree whole rootless within finishes each =
    at_first c todo (IsStripped c.nodes)
    (λ n head at.
    let own = within n.serial (head_has n.serial todo head) in
    may_leave c n order whole (not_root set n.serial rootless own) at (head_bare todo n.serial n.state head (each n.serial n at)) (head_childless next c set todo n.serial order tree head own finishes))
