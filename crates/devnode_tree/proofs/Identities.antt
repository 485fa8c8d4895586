-- The changes of a node that leave its identity.
use Rattle.std.proofs.Common.{◌≡◌, ℕ, List, Option, refl}
use Rattle.pnp_labels.specs.declared.states.DevState.{DevState}
use Rattle.pnp_labels.specs.declared.states.Problem.{Problem}
use Rattle.resource_reqs.specs.Resources.{Res, Reqs}
use Rattle.pnp_model.specs.Cores.{is_node, with_state, with_problem, with_holds, with_stack, bare}
use Rattle.pnp_model.specs.Keyed.{changed_first}
use Rattle.pnp_model.specs.Records.{Node}
use Rattle.devnode_tree.specs.Identities.{identity, identities}
use Rattle.devnode_tree.specs.Trees.{with_reqs}
use Rattle.devnode_tree.proofs.KeyedMaps.{map-changed_same}

pub state_keeps : (k : ℕ) (state : DevState) (nodes : List Node) → identities (changed_first (is_node k) (with_state state) nodes) ≡ identities nodes
state_keeps k state nodes = map-changed_same (is_node k) identity (with_state state) (λ n. refl) nodes

pub problem_keeps : (k : ℕ) (problem : Option Problem) (nodes : List Node) → identities (changed_first (is_node k) (with_problem problem) nodes) ≡ identities nodes
problem_keeps k problem nodes = map-changed_same (is_node k) identity (with_problem problem) (λ n. refl) nodes

pub holds_keep : (k : ℕ) (holds : List Res) (nodes : List Node) → identities (changed_first (is_node k) (with_holds holds) nodes) ≡ identities nodes
holds_keep k holds nodes = map-changed_same (is_node k) identity (with_holds holds) (λ n. refl) nodes

pub reqs_keep : (k : ℕ) (reqs : Reqs) (nodes : List Node) → identities (changed_first (is_node k) (with_reqs reqs) nodes) ≡ identities nodes
reqs_keep k reqs nodes = map-changed_same (is_node k) identity (with_reqs reqs) (λ n. refl) nodes

pub stack_keeps : (k : ℕ) (stack : List ℕ) (state : DevState) (nodes : List Node) → identities (changed_first (is_node k) (with_stack stack state) nodes) ≡ identities nodes
stack_keeps k stack state nodes = map-changed_same (is_node k) identity (with_stack stack state) (λ n. refl) nodes

pub bare_keeps : (k : ℕ) (nodes : List Node) → identities (changed_first (is_node k) bare nodes) ≡ identities nodes
bare_keeps k nodes = map-changed_same (is_node k) identity bare (λ n. refl) nodes
