-- Arbiters that mirror what devices hold still do where no holdings change.
use Rattle.std.proofs.Common.{◌≡◌, ℕ, Bool, true, false, cond, List, [], ◌∷◌, ◌++◌, Option, Some, None, option_map, refl, sym, ap, ◌∙◌, arith}
use Rattle.std.proofs.lemmas.Bool.Decides.{nat_tests}
use Rattle.resource_reqs.specs.declared.owner.Owner.TheVariants.{Reserved, Device}
use Rattle.trial_journal.specs.ByKind.{Arbiters}
use Rattle.pnp_model.specs.Keyed.{changed_first, without_first}
use Rattle.pnp_model.specs.Records.{Node}
use Rattle.pnp_model.specs.Cores.{is_node, node_at, with_state, with_problem, with_stack}
use Rattle.pnp_labels.specs.declared.states.DevState.{DevState}
use Rattle.pnp_labels.specs.declared.states.Problem.{Problem}
use Rattle.pnp_labels.specs.declared.states.DevState.TheVariants.{NoStack}
use Rattle.resource_reqs.specs.Resources.{Reqs}
use Rattle.devnode_tree.specs.Trees.{CanLeave, with_reqs}
use Rattle.operation_frame.specs.Nodes.{HoldsNothing}
use Rattle.device_holdings.specs.Mirrors.{pairs_of, node_pairs, lists_with, KeepsMirror}

mirror_same : (nodes nodes' : List Node) (a : Arbiters) → node_pairs nodes' ≡ node_pairs nodes → KeepsMirror nodes a nodes' a
mirror_same nodes nodes' a e = λ reserved m. record { lists = m.lists ∙ ap (λ l. lists_with (pairs_of Reserved reserved ++ l)) (sym e); few = m.few }

module _ (k : ℕ) (f : Node → Node) (serial : (n : Node) → (f n).serial ≡ n.serial) (holds : (n : Node) → (f n).holds ≡ n.holds) where
  pairs_changed : (nodes : List Node) → node_pairs (changed_first (is_node k) f nodes) ≡ node_pairs nodes
  pairs_changed [] = refl
  pairs_changed (n ∷ ns) =
      let by_test : (b : Bool) → node_pairs (cond b (f n ∷ ns) (n ∷ changed_first (is_node k) f ns)) ≡ pairs_of (Device n.serial) n.holds ++ node_pairs ns =
      λ b. elim b as (λ b. node_pairs (cond b (f n ∷ ns) (n ∷ changed_first (is_node k) f ns)) ≡ pairs_of (Device n.serial) n.holds ++ node_pairs ns) [
        | true ↦ ap (λ i. pairs_of (Device i) (f n).holds ++ node_pairs ns) (serial n) ∙ ap (λ h. pairs_of (Device n.serial) h ++ node_pairs ns) (holds n)
        | false ↦ ap (λ l. pairs_of (Device n.serial) n.holds ++ l) (pairs_changed ns)
      ] in
      by_test (is_node k n)

-- a state or a problem changes, or what is required
pub mirror_state : (k : ℕ) (nodes : List Node) (a : Arbiters) → (state : DevState) → KeepsMirror nodes a (changed_first (is_node k) (with_state state) nodes) a
mirror_state k nodes a state = mirror_same nodes (changed_first (is_node k) (with_state state) nodes) a (pairs_changed k (with_state state) (λ n. refl) (λ n. refl) nodes)

pub mirror_problem : (k : ℕ) (nodes : List Node) (a : Arbiters) → (problem : Option Problem) → KeepsMirror nodes a (changed_first (is_node k) (with_problem problem) nodes) a
mirror_problem k nodes a problem = mirror_same nodes (changed_first (is_node k) (with_problem problem) nodes) a (pairs_changed k (with_problem problem) (λ n. refl) (λ n. refl) nodes)

pub mirror_reqs : (k : ℕ) (nodes : List Node) (a : Arbiters) → (reqs : Reqs) → KeepsMirror nodes a (changed_first (is_node k) (with_reqs reqs) nodes) a
mirror_reqs k nodes a reqs = mirror_same nodes (changed_first (is_node k) (with_reqs reqs) nodes) a (pairs_changed k (with_reqs reqs) (λ n. refl) (λ n. refl) nodes)

pub mirror_stack : (k : ℕ) (nodes : List Node) (a : Arbiters) → (stack : List ℕ) (state : DevState) → KeepsMirror nodes a (changed_first (is_node k) (with_stack stack state) nodes) a
mirror_stack k nodes a stack state = mirror_same nodes (changed_first (is_node k) (with_stack stack state) nodes) a (pairs_changed k (with_stack stack state) (λ n. refl) (λ n. refl) nodes)

pairs_left : (k : ℕ) (nodes : List Node) (n : Node) → node_at k nodes ≡ Some n → n.holds ≡ [] → node_pairs (without_first (is_node k) nodes) ≡ node_pairs nodes
pairs_left k [] n at none = absurd (cc)
pairs_left k (x ∷ xs) n at none =
    let by_test : (b : Bool) → is_node k x ≡ b → node_pairs (cond b xs (x ∷ without_first (is_node k) xs)) ≡ pairs_of (Device x.serial) x.holds ++ node_pairs xs =
    λ b. elim b as (λ b. is_node k x ≡ b → node_pairs (cond b xs (x ∷ without_first (is_node k) xs)) ≡ pairs_of (Device x.serial) x.holds ++ node_pairs xs) [
      | true ↦ λ e.
          let same : x ≡ n = grind (arith, nat_tests) in
          let bare : x.holds ≡ [] = ap (λ (y : Node). y.holds) same ∙ none in
          sym (ap (λ h. pairs_of (Device x.serial) h ++ node_pairs xs) bare)
      | false ↦ λ e. ap (λ l. pairs_of (Device x.serial) x.holds ++ l) (pairs_left k xs n (grind (arith, nat_tests)) none)
    ] in
    by_test (is_node k x) refl

-- a device without holdings leaves
pub mirror_left : (k : ℕ) (nodes : List Node) (a : Arbiters) (n : Node) → node_at k nodes ≡ Some n → n.holds ≡ [] → KeepsMirror nodes a (without_first (is_node k) nodes) a
mirror_left k nodes a n at none = mirror_same nodes (without_first (is_node k) nodes) a (pairs_left k nodes n at none)

pub mirror_gone : (k : ℕ) (nodes : List Node) (a : Arbiters) → CanLeave k nodes → HoldsNothing (node_at k nodes) → KeepsMirror nodes a (without_first (is_node k) nodes) a
mirror_gone k nodes a can none = by (node_at k nodes) refl can.bare none
  where
    by : (o : Option Node) → node_at k nodes ≡ o → option_map (λ (n : Node). n.state) o ≡ Some NoStack → HoldsNothing o → KeepsMirror nodes a (without_first (is_node k) nodes) a
    by None e b h = absurd (cc)
    by (Some n) e b h = mirror_left k nodes a n e h
