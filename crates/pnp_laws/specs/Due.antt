-- Which devices a surprise removal still waits for: the leading tasks, and what stands below them.
use Rattle.std.specs.Prelude.{ℕ, ◌≡◌, Bool, true, List, [], ◌∷◌, Some, if◌then◌else◌}
use Rattle.std.specs.List.{list_any}
use Rattle.pnp_model.specs.Tests.{has, is_surprise_task}
use Rattle.pnp_model.specs.Trees.{above}
use Rattle.pnp_model.specs.Cores.{node_at}
use Rattle.pnp_model.specs.Records.{Node, Task}
use Rattle.pnp_labels.specs.declared.states.DevState.TheVariants.{Stopped}

-- the devices of the surprise tasks before the first task of another kind
abbrev pub leads : List Task → List ℕ
leads [] = []
leads (task ∷ tasks) = if is_surprise_task task.kind then task.serial ∷ leads tasks else []

-- it or a device above it has a leading task
abbrev pub is_due : List Task → List Node → ℕ → Bool
is_due tasks nodes k = list_any (λ j. has (leads tasks) j) (k ∷ above nodes k)

-- outside operations each device that is Stopped is due
abbrev pub AllDue : List Task → List Node → Type 0
AllDue tasks nodes = (k : ℕ) (n : Node) → node_at k nodes ≡ Some n → n.state ≡ Stopped → is_due tasks nodes k ≡ true
