-- The parts of a step of a removal.
use Rattle.std.specs.Prelude.{Bool, true, false, List, Option, IfSome}
use Rattle.pnp_labels.specs.declared.label.RemoveStep.{RemoveStep}
use Rattle.pnp_labels.specs.declared.states.Problem.{Problem}
use Rattle.pnp_model.specs.Frames.{first_node}
use Rattle.pnp_model.specs.Records.{Node, Job, Stage}
use Rattle.pnp_model.specs.Removals.{settle}
use Rattle.operation_frame.specs.Nodes.{IsStripped}
use Rattle.operation_frame.specs.Steps.{Moved, MovesFor}

-- a device is settled
abbrev pub is_settling : Stage → Bool
is_settling Stage.Settling = true
is_settling _ = false

-- where a device is settled, it may leave: it has no drivers, no holdings and no children, and is not the root
abbrev pub SettlesStripped : List Node → Job → Stage → Type 0
SettlesStripped nodes o Stage.Settling = IfSome (first_node nodes o.todo) (IsStripped nodes)
SettlesStripped nodes o stage = Unit {0}

-- the problem of a related device that remains
abbrev pub problem_if : Bool → Problem
problem_if true = Problem.HeldForEject
problem_if false = Problem.Held

-- a device that is settled leaves or remains
abbrev pub SettlesFor : Option Node → List Node → Job → RemoveStep → List Node → Job → Type 0
SettlesFor first nodes o step nodes' o' = MovesFor Moved first (λ c n. settle c o n) nodes step nodes' o'
