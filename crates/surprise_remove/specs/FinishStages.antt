-- The stages of a finish in the words of the machine.
use Rattle.std.specs.Prelude.{ℕ, Bool, true, false, List, [], ◌∷◌, Option, Some, None}
use Rattle.pnp_labels.specs.declared.states.Problem.{Problem}
use Rattle.pnp_model.specs.Finishes.{is_leaving}
use Rattle.pnp_model.specs.Records as Records
use Rattle.pnp_model.specs.Records.{Node, Walk}
use Rattle.operation_frame.specs.Walks.{walk_if}
use Rattle.surprise_remove.specs.declared.finish.Stage.{Stage}
use Rattle.surprise_remove.specs.declared.finish.Stage.TheVariants.{Next, Removing, Leaving, Holding}

abbrev pub stage_of : Stage → Records.Stage
stage_of Next = Records.Stage.Next
stage_of (Removing k) = Records.Stage.Removing
stage_of (Leaving k) = Records.Stage.Leaving
stage_of (Holding k) = Records.Stage.Holding

-- a request is on its way
abbrev pub is_walking : Stage → Bool
is_walking (Removing k) = true
is_walking _ = false

abbrev pub walk_at : Stage → Walk → Option Walk
walk_at stage w = walk_if (is_walking stage) w

-- the current device
abbrev pub todo_of : Stage → List ℕ
todo_of Next = []
todo_of (Removing k) = k ∷ []
todo_of (Leaving k) = k ∷ []
todo_of (Holding k) = k ∷ []

-- what becomes of a device that loses its drivers: does it leave, and which problem does it have?
abbrev pub settled_with : ℕ → Bool → Option Problem → Stage
settled_with k true problem = Leaving k
settled_with k false (Some problem) = Next
settled_with k false None = Holding k

abbrev pub settled_at : List Node → ℕ → Option Node → Bool → Stage
settled_at nodes k None in_world = Next
settled_at nodes k (Some node) in_world = settled_with k (is_leaving nodes node in_world) node.problem
