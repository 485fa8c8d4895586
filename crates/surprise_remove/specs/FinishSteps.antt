-- What a step of a finish needs.
use Rattle.std.specs.Prelude.{List, IsSome, IfSome}
use Rattle.pnp_model.specs.Frames.{first_node}
use Rattle.pnp_model.specs.Records.{Node, Job, Stage}
use Rattle.operation_frame.specs.Nodes.{IsStripped}

-- but where a ready device is taken, the current device is there
abbrev pub HasCurrent : List Node → Job → Stage → Type 0
HasCurrent nodes f Stage.Next = Unit {0}
HasCurrent nodes f stage = IsSome (first_node nodes f.todo)

-- a device that leaves may leave
abbrev pub LeavesStripped : List Node → Job → Stage → Type 0
LeavesStripped nodes f Stage.Leaving = IfSome (first_node nodes f.todo) (IsStripped nodes)
LeavesStripped nodes f stage = Unit {0}
