-- The changes that leave serial, parent and path.
use Rattle.std.proofs.Common.{ℕ, List, Option, refl}
use Rattle.pnp_labels.specs.declared.states.DevState.{DevState}
use Rattle.pnp_labels.specs.declared.states.Problem.{Problem}
use Rattle.pnp_model.specs.Cores.{with_state, with_problem, with_holds, with_drivers, with_stack, bare}
use Rattle.resource_reqs.specs.Resources.{Res, Reqs}
use Rattle.devnode_tree.specs.Trees.{with_reqs}
use Rattle.devnode_tree.proofs.Changes.{KeepsLinks}

pub keeps_state : (state : DevState) → KeepsLinks (with_state state)
keeps_state state = record { serial = λ n. refl; parent = λ n. refl; path = λ n. refl; born = λ n. refl }

pub keeps_problem : (problem : Option Problem) → KeepsLinks (with_problem problem)
keeps_problem problem = record { serial = λ n. refl; parent = λ n. refl; path = λ n. refl; born = λ n. refl }

pub keeps_holds : (holds : List Res) → KeepsLinks (with_holds holds)
keeps_holds holds = record { serial = λ n. refl; parent = λ n. refl; path = λ n. refl; born = λ n. refl }

pub keeps_reqs : (reqs : Reqs) → KeepsLinks (with_reqs reqs)
keeps_reqs reqs = record { serial = λ n. refl; parent = λ n. refl; path = λ n. refl; born = λ n. refl }

pub keeps_drivers : (stack : List ℕ) → KeepsLinks (with_drivers stack)
keeps_drivers stack = record { serial = λ n. refl; parent = λ n. refl; path = λ n. refl; born = λ n. refl }

pub keeps_stack : (stack : List ℕ) (state : DevState) → KeepsLinks (with_stack stack state)
keeps_stack stack state = record { serial = λ n. refl; parent = λ n. refl; path = λ n. refl; born = λ n. refl }

pub keeps_bare : KeepsLinks bare
keeps_bare = record { serial = λ n. refl; parent = λ n. refl; path = λ n. refl; born = λ n. refl }
