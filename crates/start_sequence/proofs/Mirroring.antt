-- Arbiters that mirror what devices hold still do where no holdings change.
use Rattle.std.proofs.Common.{ℕ, List, Option, refl}
use Rattle.trial_journal.specs.ByKind.{Arbiters}
use Rattle.pnp_model.specs.Keyed.{changed_first}
use Rattle.pnp_model.specs.Records.{Node}
use Rattle.pnp_model.specs.Cores.{is_node, with_state, with_problem, with_stack}
use Rattle.pnp_labels.specs.declared.states.DevState.{DevState}
use Rattle.pnp_labels.specs.declared.states.Problem.{Problem}
use Rattle.device_holdings.specs.Mirrors.{KeepsMirror}
use Rattle.device_holdings.proofs.Apart.{mirrors_kept}

pub mirror_state : (k : ℕ) (state : DevState) (nodes : List Node) (a : Arbiters) → KeepsMirror nodes a (changed_first (is_node k) (with_state state) nodes) a
mirror_state k state nodes a = λ reserved m. mirrors_kept (with_state state) (λ n. refl) (λ n. refl) (is_node k) reserved nodes a m

pub mirror_problem : (k : ℕ) (problem : Option Problem) (nodes : List Node) (a : Arbiters) → KeepsMirror nodes a (changed_first (is_node k) (with_problem problem) nodes) a
mirror_problem k problem nodes a = λ reserved m. mirrors_kept (with_problem problem) (λ n. refl) (λ n. refl) (is_node k) reserved nodes a m

pub mirror_stack : (k : ℕ) (stack : List ℕ) (state : DevState) (nodes : List Node) (a : Arbiters) → KeepsMirror nodes a (changed_first (is_node k) (with_stack stack state) nodes) a
mirror_stack k stack state nodes a = λ reserved m. mirrors_kept (with_stack stack state) (λ n. refl) (λ n. refl) (is_node k) reserved nodes a m
