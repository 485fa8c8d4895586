-- What removal and surprise removal share: a device stands first, loses its drivers, remains, or leaves.
use Rattle.std.proofs.Common.{ℕ, ◌≡◌, ◌≢◌, inl, inr, Bool, true, false, cond, List, [], Option, Some, refl, sym, ◌∙◌, subst}
use Rattle.pnp_model.specs.Keyed.{changed_first, without_first, those}
use Rattle.pnp_model.specs.Records.{Node, State, Job}
use Rattle.pnp_model.specs.Cores.{is_node, node_at, with_state, with_problem, bare, stack_of}
use Rattle.pnp_model.specs.Tests.{has}
use Rattle.pnp_model.specs.Frames.{first_node, rest}
use Rattle.pnp_labels.specs.declared.states.DevState.{DevState}
use Rattle.pnp_labels.specs.declared.states.DevState.TheVariants.{NoStack}
use Rattle.pnp_labels.specs.declared.states.Problem.{Problem}
use Rattle.pnp_laws.specs.Kept.{Good, Lawful, Each, HasStackOf, OperationFits, Distinct, Within, Ascending, finishing_state, settling_state, removing_state}
use Rattle.pnp_laws.proofs.Lookups.{node_from, left_from}
use Rattle.pnp_laws.proofs.Diagrams.{Each_changed, Each_left}
use Rattle.pnp_laws.proofs.Kept.{lawful_by, Good_left}
use Rattle.pnp_laws.proofs.Lists.{HeadIs, head_found, rest_not, those_has, those_keeps}
use Rattle.pnp_laws.proofs.OpSteps.{lawful_walked, up_stack}
use Rattle.pnp_laws.proofs.Finishing.{StacksFit, head_bare, stripped_here, stripped_there, settled_there, calm_here, stack_kept, stack_left}

-- a device of the operation, which stands first
pub record AtWork (s : State) (node : Node) (o : Job) : Type 0 where
  pub alone : s.activities ≡ []
  pub head : HeadIs node.serial o.todo
  pub at : node_at node.serial s.core.nodes ≡ Some node
  pub good : Good s.next_serial s.core.nodes [] (Some o)

pub at_work : (s : State) (o : Job) (node : Node) → s.activities ≡ [] → first_node s.core.nodes o.todo ≡ Some node → Good s.next_serial s.core.nodes [] (Some o) → AtWork s node o
at_work s o node alone first good = let h = head_found s.core.nodes o.todo node first in record { alone = alone; head = h.0; at = h.1; good = good }

pub not_root : (set todo : List ℕ) (j : ℕ) → has set 0 ≡ false → Within todo set → has todo j ≡ true → j ≢ 0
not_root set todo j h within g = λ z. let w = within j g in let w0 = subst (λ (i : ℕ). has set i ≡ true) z w in cc

-- Stacks ------------------------------------------------------------------------------

pub stacks_changed : (j : ℕ) (y : DevState) (node : Node) (nodes : List Node) → StacksFit nodes → node_at j nodes ≡ Some node → HasStackOf j y node.stack → StacksFit (changed_first (is_node j) (with_state y) nodes)
stacks_changed j y node nodes stacks at stack k m g =
    elim (node_from j k (with_state y) nodes m (λ x. refl) g) [
      | inl (e, (n, q, r)) ↦
          let at_k = subst (λ (i : ℕ). node_at i nodes ≡ Some node) e at in
          let same : with_state y node ≡ m = let yn : node ≡ n = cc in cc in
          subst (λ (z : Node). HasStackOf k z.state z.stack) same (subst (λ (i : ℕ). HasStackOf i y node.stack) e stack)
      | inr (d, q) ↦ stacks k m q
    ]

pub stacks_problem : (j : ℕ) (problem : Option Problem) (nodes : List Node) → StacksFit nodes → StacksFit (changed_first (is_node j) (with_problem problem) nodes)
stacks_problem j problem nodes stacks k m g =
    elim (node_from j k (with_problem problem) nodes m (λ x. refl) g) [
      | inl (e, (n, q, r)) ↦ subst (λ (z : Node). HasStackOf k z.state z.stack) (sym r) (stacks k n q)
      | inr (d, q) ↦ stacks k m q
    ]

pub stacks_left : (j : ℕ) (nodes : List Node) → Ascending 0 nodes → StacksFit nodes → StacksFit (without_first (is_node j) nodes)
stacks_left j nodes order stacks k m g = stacks k m (left_from j k nodes m order g).1

-- a walk of the device that stands first has ended, and it has the state y
pub lawful_ended : (s t : State) (node : Node) (o p : Job) (x y : DevState) → AtWork s node o → node.state ≡ x → node.serial ≢ 0 → t.next_serial ≡ s.next_serial →
    t.core.nodes ≡ changed_first (is_node node.serial) (with_state y) s.core.nodes → t.activities ≡ s.activities → t.operation ≡ Some p → x ≢ NoStack → y ≢ NoStack →
    (StacksFit (changed_first (is_node node.serial) (with_state y) s.core.nodes) → OperationFits (Some p) (changed_first (is_node node.serial) (with_state y) s.core.nodes)) → Lawful t
lawful_ended s t node o p x y w e up a b c d xn yn fits =
    let stack = up_stack node.serial node.state y node.stack (w.good.stacks node.serial node w.at) (λ z. xn (sym e ∙ z)) yn up in
    lawful_walked s t (with_state y) node o p a b (c ∙ w.alone) d (λ x. refl) w.at stack (fits (stacks_changed node.serial y node s.core.nodes w.good.stacks w.at stack)) w.good

-- The device that stands first is finished --------------------------------------------------

-- what stands behind it is still to be finished, and the drivers of the next are those that were looked up
abbrev pub NextFits : State → Job → List ℕ → List Node → Type 0
NextFits s p todo nodes =
    ((k : ℕ) → has todo k ≡ true → stack_of (node_at k nodes) ≡ stack_of (node_at k s.core.nodes)) → StacksFit nodes → Each (finishing_state todo) nodes → OperationFits (Some p) nodes

module _ (s t : State) (o p : Job) (node : Node) (serial : t.next_serial ≡ s.next_serial) (activities : t.activities ≡ s.activities) (runs : t.operation ≡ Some p) (work : AtWork s node o) where
  -- its REMOVE walk ends
  pub lawful_strips : node.serial ≢ 0 → Each (removing_state o.todo) s.core.nodes → t.core.nodes ≡ changed_first (is_node node.serial) bare s.core.nodes
      → (Each (settling_state o.todo) (changed_first (is_node node.serial) bare s.core.nodes) → OperationFits (Some p) (changed_first (is_node node.serial) bare s.core.nodes))
      → Lawful t
  lawful_strips up each nodes fits =
      let j = node.serial in
      let todo = o.todo in
      lawful_walked s t bare node o p serial nodes (activities ∙ work.alone) runs (λ x. refl) work.at
      (record { none = λ h. refl; some = λ d h. refl; root = λ z. absurd (up z) })
      (fits (Each_changed (removing_state todo) (settling_state todo) j bare s.core.nodes node (λ x. refl) work.at (stripped_here todo j work.head)
      (λ k x d h. stripped_there todo j k x work.head d h) each))
      work.good

  module _ (distinct : Distinct o.todo) (each : Each (settling_state o.todo) s.core.nodes) where
    state : node.state ≡ NoStack
    state = head_bare o.todo node.serial node.state work.head (each node.serial node work.at)

    not_rest : has (rest o.todo) node.serial ≡ false
    not_rest = rest_not node.serial o.todo work.head distinct

    -- it remains, with a problem
    pub lawful_remains : (problem : Problem) → t.core.nodes ≡ changed_first (is_node node.serial) (with_problem (Some problem)) s.core.nodes → NextFits s p (rest o.todo) (changed_first (is_node node.serial) (with_problem (Some problem)) s.core.nodes)
        → Lawful t
    lawful_remains problem nodes fits =
        let j = node.serial in
        let todo = o.todo in
        lawful_walked s t (with_problem (Some problem)) node o p serial nodes (activities ∙ work.alone) runs (λ x. refl) work.at (work.good.stacks j node work.at)
        (fits (λ k h. stack_kept j k (with_problem (Some problem)) s.core.nodes (λ x. refl) (λ x. refl)) (stacks_problem j (Some problem) s.core.nodes work.good.stacks)
        (Each_changed (settling_state todo) (finishing_state (rest todo)) j (with_problem (Some problem)) s.core.nodes node (λ x. refl) work.at
        (subst (λ (x : DevState). finishing_state (rest todo) j x ≡ true) (sym state) (calm_here (rest todo) j not_rest)) (λ k x d h. settled_there todo j k x work.head d h) each))
        work.good

    -- it leaves
    pub lawful_leaves : t.core.nodes ≡ without_first (is_node node.serial) s.core.nodes → NextFits s p (rest o.todo) (without_first (is_node node.serial) s.core.nodes) → Lawful t
    lawful_leaves nodes fits =
        let j = node.serial in
        let todo = o.todo in
        lawful_by t s.next_serial (without_first (is_node j) s.core.nodes) [] (Some p) serial nodes (activities ∙ work.alone) runs
        (Good_left s.next_serial j s.core.nodes (Some o) (Some p)
        (fits (λ k h. stack_left j k s.core.nodes (λ e. let z = subst (λ (i : ℕ). has (rest todo) i ≡ false) e not_rest in cc)) (stacks_left j s.core.nodes work.good.serials work.good.stacks)
        (Each_left (settling_state todo) (finishing_state (rest todo)) j s.core.nodes work.good.serials (λ k x d h. settled_there todo j k x work.head d h) each))
        refl work.good)

-- The begin: who of the set is asked first ----------------------------------------------------

-- `a`, `b` and `c` are tests of the state of device k: of one that is asked, of another of the set, and of one outside
pub begun_one : (asks : ℕ → Bool) (set : List ℕ) (k : ℕ) (a b c : Bool) → asks k ≡ a → (has set k ≡ true → a ≡ false → b ≡ true) → c ≡ true → cond (has (those asks set) k) a (cond (has set k) b c) ≡ true
begun_one asks set k a b c is other outside = by_two (has (those asks set) k) (has set k) refl refl
  where
    unasked : (x : Bool) → a ≡ x → has (those asks set) k ≡ false → has set k ≡ true → a ≡ false
    unasked true e h g = let kept = those_keeps asks set k g (is ∙ e) in absurd (cc)
    unasked false e h g = e

    by_two : (x y : Bool) → has (those asks set) k ≡ x → has set k ≡ y → cond x a (cond y b c) ≡ true
    by_two true y h g = sym is ∙ (those_has asks set k h).1
    by_two false true h g = other g (unasked a refl h g)
    by_two false false h g = outside
