-- The rebalance: devices stop so that one more can have its resources. The change: they stop so that one of them can have
-- what it requires now.
use Rattle.std.specs.Prelude.{ℕ, ◌==◌, Bool, true, false, not, ◌&&◌, List, [], ◌∷◌, Option, Some, None, length, map, reverse, if◌then◌else◌}
use Rattle.resource_reqs.specs.Resources.{Res, Reqs}
use Rattle.resource_reqs.specs.Spelling.Answer.{assignment, no_fit, spent}
use Rattle.pnp_model.specs.Keyed.{those, without_first}
use Rattle.pnp_model.specs.Tests.{has, is_started}
use Rattle.pnp_model.specs.Cores.{node_at, serials_of, set_problem}
use Rattle.pnp_model.specs.Trees.{above, stands_up}
use Rattle.pnp_model.specs.Frames.{ended, rest, fixed_beside}
use Rattle.pnp_model.specs.Jobs.{JobMove, Beside, moves, job_of, stands, begins, each_gets, closes}
use Rattle.pnp_model.specs.Records.{Node, Core, Found, Doing, SearchProblem, Job, Stage}
use Rattle.pnp_model.specs.Records.Stage.{Asking, TakingBack, Searching, Cancelling, Stuck, Stopping, Committing, Restarting, Failed, Ending}
use Rattle.pnp_model.specs.Records.Doing.{Does, Searches}
use Rattle.pnp_labels.specs.declared.label.Label.{Label}
use Rattle.pnp_labels.specs.declared.words.Minor.{Minor}
use Rattle.pnp_labels.specs.declared.states.Problem.{Problem}
use Rattle.pnp_labels.specs.declared.label.OpKind.{OpKind}
use Rattle.pnp_labels.specs.declared.label.OpEnd.{OpEnd}

-- what comes next, by the devices that are still to do

-- after a search without an assignment a rebalance owes its target a problem; a change leaves all as it was
abbrev pub cancelled : Option Reqs → Stage
cancelled None = Stuck
cancelled (Some wanted) = Ending

abbrev pub cancel_on : Job → List ℕ → Job
cancel_on r todo = each_gets Minor.CancelStop Cancelling r todo (stands r [] (cancelled r.wanted))

-- has the target of a change not agreed?
abbrev pub has_refused_in : Option Reqs → Bool → Bool
has_refused_in None agreed = false
has_refused_in (Some wanted) agreed = not agreed

abbrev pub has_refused : Job → Bool
has_refused r = has_refused_in r.wanted (has r.agreed r.target)

-- after all have answered the search follows, but where the target of a change refused
abbrev pub ask_on : Job → List ℕ → Job
ask_on r todo =
    each_gets Minor.QueryStop Asking r todo (if has_refused r then cancel_on r r.agreed else stands r [] Searching)

abbrev pub stop_on : Job → List ℕ → Job
stop_on r todo = each_gets Minor.Stop Stopping r todo (stands r [] Committing)

-- without those at the front that have a device above which is not Started
abbrev pub startable : List Node → List ℕ → List ℕ
startable nodes [] = []
startable nodes (k ∷ ks) = if stands_up nodes k then k ∷ ks else startable nodes ks

abbrev pub restart_on : List Node → Job → List ℕ → Job
restart_on nodes r todo = each_gets Minor.Start Restarting r (startable nodes todo) (stands r [] Ending)

-- the begin: each Started device but the root is asked, the greatest serial first

abbrev pub is_asked : Node → Bool
is_asked n = is_started n.state && not (n.serial == 0)

abbrev pub begun_with : Core → OpKind → Node → Option Reqs → Job
begun_with c kind node wanted =
    ask_on (record (job_of kind node) { wanted = wanted }) (reverse (serials_of (those is_asked c.nodes)))

abbrev pub begun_rebalance : Core → Node → Job
begun_rebalance c node = begun_with c OpKind.Rebalance node None

abbrev pub begun_change : Core → Node → Reqs → Job
begun_change c node wanted = begun_with c OpKind.Change node (Some wanted)

-- where the request of the device that is next has ended: after a bad end the device refuses, and is told at once that it
-- stays; a restart that ends badly leaves a problem

abbrev pub answers : Job → Node → Bool → Job
answers r node true = begins (record r { refused = node.serial ∷ r.refused }) r.todo TakingBack Minor.CancelStop
answers r node false = ask_on (record r { agreed = node.serial ∷ r.agreed }) (rest r.todo)

-- a device below which this one refused is not asked
abbrev pub is_not_above : List Node → ℕ → ℕ → Bool
is_not_above nodes k j = not (has (above nodes k) j)

abbrev pub after_restart : Core → Job → Node → Bool → Job
after_restart c r node true = stands r r.todo Failed
after_restart c r node false = restart_on (ended c node Minor.Start false).nodes r (rest r.todo)

abbrev pub after_end : Core → Job → Node → Bool → Stage → Option Job
after_end c r node bad Asking = Some (answers r node bad)
after_end c r node bad TakingBack = Some (ask_on r (those (is_not_above c.nodes node.serial) (rest r.todo)))
after_end c r node bad Cancelling = Some (cancel_on r (rest r.todo))
after_end c r node bad Stopping = Some (stop_on r (rest r.todo))
after_end c r node bad Restarting = Some (after_restart c r node bad)
after_end c r node bad _ = None

-- the search

abbrev pub reqs_of : Option Node → Reqs
reqs_of None = []
reqs_of (Some n) = n.reqs

-- all that agreed but the target
abbrev pub others : Job → List ℕ
others r = without_first (λ j. j == r.target) r.agreed

abbrev pub movers : Job → List ℕ
movers r = r.target ∷ others r

abbrev pub reqs_or : Option Reqs → Reqs → Reqs
reqs_or None own = own
reqs_or (Some wanted) own = wanted

abbrev pub target_reqs : Core → Job → Reqs
target_reqs c r = reqs_or r.wanted (reqs_of (node_at r.target c.nodes))

abbrev pub group_problem : Core → Job → SearchProblem
group_problem c r =
    record {
      fixed = fixed_beside c (movers r);
      movers = target_reqs c r ∷ map (λ k. reqs_of (node_at k c.nodes)) (others r);
    }

abbrev pub searched : Core → Job → Found → JobMove
searched c r (assignment plan) =
    moves (Label.Fits r.path) c (stop_on (record r { found = assignment plan }) (reverse r.agreed))
searched c r no_fit = moves (Label.NoFit r.path) c (cancel_on (record r { found = no_fit }) r.agreed)
searched c r spent = moves (Label.Spent r.path) c (cancel_on (record r { found = spent }) r.agreed)

-- nothing fits

abbrev pub trouble_of : Found → Problem
trouble_of spent = Problem.Budget
trouble_of no_fit = Problem.NormalConflict
trouble_of (assignment plan) = Problem.NormalConflict

abbrev pub stuck : Core → Job → JobMove
stuck c r =
    moves (Label.Trouble r.path (trouble_of r.found)) (set_problem r.target (Some (trouble_of r.found)) c)
    (stands r [] Ending)

-- it fits

-- the holdings of a mover are its part of the plan; all others keep theirs
abbrev pub part_for : ℕ → List ℕ → List (List Res) → List Res → List Res
part_for k [] plan held = held
part_for k (j ∷ js) [] held = held
part_for k (j ∷ js) (holds ∷ plan) held = if j == k then holds else part_for k js plan held

abbrev pub plan_of : Found → List (List Res)
plan_of (assignment plan) = plan
plan_of no_fit = []
plan_of spent = []

-- the target of a change requires from now on what it wanted
abbrev pub reqs_after : Option Reqs → ℕ → Node → Reqs
reqs_after None target n = n.reqs
reqs_after (Some wanted) target n = if n.serial == target then wanted else n.reqs

abbrev pub committed : Option Reqs → ℕ → List ℕ → List (List Res) → Node → Node
committed wanted target serials plan n =
    record n { reqs = reqs_after wanted target n; holds = part_for n.serial serials plan n.holds }

abbrev pub commit : Core → Job → Core
commit c r = record c { nodes = map (committed r.wanted r.target (movers r) (plan_of r.found)) c.nodes }

abbrev pub commit_step : Core → Job → JobMove
commit_step c r = moves (Label.Commit (length (movers r))) (commit c r) (restart_on c.nodes r r.agreed)

abbrev pub failed : Core → Job → Node → JobMove
failed c r node =
    record {
      label = Label.Trouble node.path Problem.FailedStart;
      core = set_problem node.serial (Some Problem.FailedStart) c;
      frame = restart_on c.nodes r (rest r.todo);
      beside = Beside.FailedRestart node.serial;
    }

-- the end

abbrev pub end_of : Found → OpEnd
end_of (assignment plan) = OpEnd.Moved
end_of no_fit = OpEnd.NoFit
end_of spent = OpEnd.Spent

-- did the target of a change refuse?
abbrev pub result : Found → Bool → OpEnd
result found true = OpEnd.Refused
result found false = end_of found

-- after a rebalance its target starts, where each device above it is Started, or loses its drivers
abbrev pub over : Core → Job → Found → Option Reqs → Beside
over c r (assignment plan) None = if stands_up c.nodes r.target then Beside.OverStart else Beside.Over
over c r no_fit None = Beside.OverUndo
over c r spent None = Beside.OverUndo
over c r found (Some wanted) = Beside.Over

abbrev pub close : Core → Job → JobMove
close c r = closes c r (result r.found (has_refused r)) (over c r r.found r.wanted)

-- without a request on its way; but for a failed restart no device is next
abbrev pub acts : Core → Job → Stage → Option Node → Option (Doing JobMove)
acts c r Searching n = Some (Searches (group_problem c r) (searched c r))
acts c r Stuck n = Some (Does (stuck c r))
acts c r Committing n = Some (Does (commit_step c r))
acts c r Failed (Some node) = Some (Does (failed c r node))
acts c r Ending n = Some (Does (close c r))
acts c r _ n = None
