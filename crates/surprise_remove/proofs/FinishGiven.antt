-- What each state of a run keeps gives a step of a finish what it needs.
use Rattle.std.proofs.Common.{◌≡◌, ◌≢◌, ℕ, false, List, [], ◌∷◌, Some, ap, ◌∙◌, arith}
use Rattle.std.proofs.lemmas.Bool.Decides.{nat_tests}
use Rattle.pnp_model.specs.Tests.{has}
use Rattle.pnp_model.specs.Laws.{HoldsWhole}
use Rattle.pnp_model.specs.Records.{Node, Core, State, Job, Course, Stage, course_of}
use Rattle.pnp_laws.specs.Kept.{Ascending, FinishKeeps, OneIsNext}
use Rattle.pnp_laws.proofs.Standing.{FinishOrder, FinishThere, Kept}
use Rattle.operation_frame.proofs.Given.{runs_as, first_there, taken_bare, alone_may_leave}
use Rattle.surprise_remove.specs.FinishSteps.{HasCurrent, LeavesStripped}

current_there : (nodes : List Node) (f : Job) (stage : Stage) → OneIsNext f stage → FinishThere f stage nodes → HasCurrent nodes f stage
current_there nodes f Stage.Next one there = tt
current_there nodes f Stage.Removing one there = first_there f.todo nodes there
current_there nodes f Stage.Leaving one there = first_there f.todo nodes there
current_there nodes f Stage.Holding one there = first_there f.todo nodes there
current_there nodes f _ one there = absurd one

no_root : (todo : List ℕ) (k : ℕ) → todo ≡ k ∷ [] → k ≢ 0 → has todo 0 ≡ false
no_root todo k is up = let one : has (k ∷ []) 0 ≡ false = grind (arith, nat_tests) in ap (λ ks. has ks 0) is ∙ one

leaves_stripped : (c : Core) (f : Job) (stage : Stage) → Ascending 0 c.nodes → HoldsWhole c.nodes → FinishKeeps f stage c.nodes → FinishOrder c f stage → LeavesStripped c.nodes f stage
leaves_stripped c f Stage.Leaving order whole keeps alone =
    alone_may_leave c f.todo order whole (no_root f.todo keeps.one.0 keeps.one.1 keeps.one.2) alone (λ k n head at. taken_bare f.todo k n.state head (keeps.each k n at))
leaves_stripped c f _ order whole keeps alone = tt

-- a finish under way in a state of a run can take its step, where no request waits
pub finish_ready : (s : State) (f : Job) → course_of f.kind ≡ Course.Finishing → Kept s → HoldsWhole s.core.nodes → s.operation ≡ Some f → HasCurrent s.core.nodes f f.stage × LeavesStripped s.core.nodes f f.stage
finish_ready s f course kept whole is =
    let runs = runs_as Course.Finishing s f course kept is in
    (current_there s.core.nodes f f.stage runs.1.one runs.0.1, leaves_stripped s.core f f.stage kept.good.serials whole runs.1 runs.0.0)
