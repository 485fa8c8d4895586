-- What each state of a run keeps gives a step of a removal what it needs.
use Rattle.std.proofs.Common.{◌≡◌, ℕ, List, Some}
use Rattle.pnp_model.specs.Laws.{HoldsWhole}
use Rattle.pnp_model.specs.Records.{Node, Core, State, Job, Course, Stage, course_of}
use Rattle.pnp_laws.specs.Kept.{Ascending, RemovalKeeps, RemovalAsks}
use Rattle.pnp_laws.proofs.Standing.{Tree, RemovalOrder, RemovalThere, Kept}
use Rattle.operation_frame.specs.Steps.{HasNext}
use Rattle.operation_frame.proofs.Given.{runs_as, first_there, next_may_leave}
use Rattle.query_remove.specs.Parts.{SettlesStripped}

removal_settles : (next : ℕ) (c : Core) (o : Job) (stage : Stage) → Ascending 0 c.nodes → Tree next c → HoldsWhole c.nodes → RemovalKeeps o stage c.nodes → RemovalOrder c o stage → SettlesStripped c.nodes o stage
removal_settles next c o Stage.Settling order tree whole keeps h = next_may_leave next c o.set o.todo order tree whole keeps.rootless keeps.asks h keeps.each
removal_settles next c o _ order tree whole keeps h = tt

removal_there : (nodes : List Node) (o : Job) (stage : Stage) → RemovalAsks o stage → RemovalThere o stage nodes → HasNext nodes o stage
removal_there nodes o Stage.Next asks there = first_there o.todo nodes there.0
removal_there nodes o Stage.Asking asks there = first_there o.todo nodes there.0
removal_there nodes o Stage.TakingBack asks there = first_there o.todo nodes there.0
removal_there nodes o Stage.Cancelling asks there = first_there o.todo nodes there
removal_there nodes o Stage.Removing asks there = first_there o.todo nodes there
removal_there nodes o Stage.Settling asks there = first_there o.todo nodes there
removal_there nodes o Stage.Ending asks there = tt
removal_there nodes o _ asks there = absurd asks

-- a removal under way in a state of a run can take its step, where no request waits
pub removal_ready : (s : State) (o : Job) → course_of o.kind ≡ Course.Removing → Kept s → HoldsWhole s.core.nodes → s.operation ≡ Some o → HasNext s.core.nodes o o.stage × SettlesStripped s.core.nodes o o.stage
removal_ready s o course kept whole is =
    let runs = runs_as Course.Removing s o course kept is in
    (removal_there s.core.nodes o o.stage runs.1.asks runs.0.1, removal_settles s.next_serial s.core o o.stage kept.good.serials kept.stands.tree whole runs.1 runs.0.0)
