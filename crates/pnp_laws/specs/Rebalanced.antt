-- What a rebalance or a change keeps since its begin: what it restores where it finds nothing, and who was asked.
use Rattle.std.specs.Prelude.{ℕ, ◌≡◌, ◌<◌, ◌⊎◌, true, false, List, [], ◌∷◌, Option, Some, None}
use Rattle.resource_reqs.specs.Resources.{Reqs}
use Rattle.resource_reqs.specs.Spelling.Answer.{no_fit}
use Rattle.pnp_model.specs.Keyed.{changed_first}
use Rattle.pnp_model.specs.Tests.{has}
use Rattle.pnp_model.specs.Cores.{is_node, node_at, with_problem}
use Rattle.pnp_model.specs.Trees.{above}
use Rattle.pnp_model.specs.Walks.{is_bad}
use Rattle.pnp_model.specs.Frames.{first_node, rest}
use Rattle.pnp_model.specs.Rebalances.{has_refused, is_asked, trouble_of}
use Rattle.pnp_model.specs.Laws.{NothingFits}
use Rattle.pnp_model.specs.Records.{Node, Core, Walk, State, Job, Course, Stage, course_of}
use Rattle.pnp_model.specs.Records.Stage.{Asking, TakingBack, Searching, Cancelling, Stuck, Stopping, Committing, Restarting, Failed, Ending}
use Rattle.pnp_labels.specs.declared.states.DevState.TheVariants.{StopPending}
use Rattle.pnp_laws.specs.Vetoes.{Held}
use Rattle.pnp_laws.specs.Holdings.{has_plan}

-- What is restored ---------------------------------------------------------------

-- nothing has changed since but for those that agreed
abbrev pub Paused : Core → Core → List ℕ → Type 0
Paused before now agreed = Held StopPending before now agreed

-- nothing has changed since but for the problem of the target
pub record Troubled (before now : Core) (r : Job) : Type 0 where
  pub nodes : now.nodes ≡ changed_first (is_node r.target) (with_problem (Some (trouble_of r.found))) before.nodes
  pub relations : now.relations ≡ before.relations
  pub reserved : now.reserved ≡ before.reserved

-- a plan was found, for which the target of a change had agreed
abbrev pub Moves : Job → Type 0
Moves r = (has_plan r.found ≡ true) × (has_refused r ≡ false)

-- in the end, by what is wanted: without a plan a rebalance leaves a problem, and a change nothing
abbrev pub EndsUndone : Core → Core → Job → Option Reqs → Type 0
EndsUndone before now r None = (has_plan r.found ≡ true) ⊎ Troubled before now r
EndsUndone before now r (Some wanted) = Moves r ⊎ Paused before now []

abbrev pub Undone : Core → Core → Job → Stage → Type 0
Undone before now r Asking = Paused before now r.agreed × (has_plan r.found ≡ false)
Undone before now r TakingBack = Paused before now r.agreed × (has_plan r.found ≡ false)
Undone before now r Searching = Paused before now r.agreed × (has_refused r ≡ false)
Undone before now r Cancelling = Paused before now r.todo × (has_plan r.found ≡ false)
Undone before now r Stuck = Paused before now [] × (has_plan r.found ≡ false)
Undone before now r Stopping = Moves r
Undone before now r Committing = Moves r
Undone before now r Restarting = Moves r
Undone before now r Failed = Moves r
Undone before now r Ending = EndsUndone before now r r.wanted
Undone before now r _ = ⊥

-- Who was asked --------------------------------------------------------------------

-- it is Started, and not the root
abbrev pub IsAskedAt : ℕ → List Node → Type 0
IsAskedAt k nodes = (n : Node) × (node_at k nodes ≡ Some n) × (is_asked n ≡ true)

abbrev pub Falling : List ℕ → Type 0
Falling [] = Unit {0}
Falling (k ∷ ks) = ((j : ℕ) → has ks j ≡ true → j < k) × Falling ks

abbrev pub Rising : List ℕ → Type 0
Rising [] = Unit {0}
Rising (k ∷ ks) = ((j : ℕ) → has ks j ≡ true → k < j) × Rising ks

-- it refused, or stands above one that did
abbrev pub StaysOut : List Node → List ℕ → ℕ → Type 0
StaysOut nodes refused k = (has refused k ≡ true) ⊎ ((j : ℕ) × (has refused j ≡ true) × (has (above nodes j) k ≡ true))

-- the devices still to ask, those that agreed, and those that refused
pub record Asks (nodes : List Node) (todo agreed refused : List ℕ) : Type 0 where
  pub falling : Falling todo
  pub rising : Rising agreed
  pub over : (j k : ℕ) → has todo j ≡ true → has agreed k ≡ true → j < k
  pub asks : (k : ℕ) → has todo k ≡ true → IsAskedAt k nodes
  pub agrees : (k : ℕ) → has agreed k ≡ true → IsAskedAt k nodes
  pub refuses : (j : ℕ) → has refused j ≡ true → (has todo j ≡ false) × (has agreed j ≡ false)
  pub above : (j k : ℕ) → has refused j ≡ true → has (above nodes j) k ≡ true → (has todo k ≡ false) × (has agreed k ≡ false)
  pub each : (k : ℕ) → IsAskedAt k nodes → (has todo k ≡ true) ⊎ ((has agreed k ≡ true) ⊎ StaysOut nodes refused k)

-- a walk that ended badly does not wait
abbrev pub EndsBad : Option Walk → Type 0
EndsBad None = Unit {0}
EndsBad (Some w) = is_bad w ≡ true → w.waits ≡ false

-- nothing fits the device of a rebalance and those that agreed, as all was before
abbrev pub IsHopeless : Core → Job → Type 0
IsHopeless before r = r.wanted ≡ None → r.found ≡ no_fit → NothingFits before (r.target ∷ r.agreed)

abbrev pub AskedSince : Core → Job → Stage → Type 0
AskedSince before r Asking = Asks before.nodes r.todo r.agreed r.refused × EndsBad r.walk
AskedSince before r TakingBack = (j : ℕ) × (more : List ℕ) × (r.refused ≡ j ∷ more) × (r.todo ≡ j ∷ rest r.todo) × Asks before.nodes r.todo r.agreed more
AskedSince before r Searching = Asks before.nodes [] r.agreed r.refused
AskedSince before r Cancelling = Asks before.nodes [] r.agreed r.refused × IsHopeless before r
AskedSince before r Stuck = Asks before.nodes [] r.agreed r.refused × IsHopeless before r
AskedSince before r _ = Unit {0}

-- the walk that asks k to stop has just ended badly
abbrev pub Refusing : Core → Job → Stage → ℕ → Type 0
Refusing c r stage k =
    (w : Walk) × (node : Node) × (stage ≡ Asking) × (r.walk ≡ Some w) × (first_node c.nodes r.todo ≡ Some node) × (node.serial ≡ k) × (is_bad w ≡ true)

-- a rebalance or a change for the device of this path runs
pub record Underway (path : List ℕ) (before : Core) (s : State) : Type 0 where
  pub frame : Job
  pub runs : s.operation ≡ Some frame
  pub course : course_of frame.kind ≡ Course.Rebalancing
  pub named : frame.path ≡ path
  pub target : (n : Node) × (node_at frame.target before.nodes ≡ Some n) × (n.path ≡ path)
  pub undone : Undone before s.core frame frame.stage
  pub asked : AskedSince before frame frame.stage
