-- The device that is asked has the state for the request, and the device that leaves has no drivers.
use Rattle.std.proofs.Common.{◌≡◌, ◌≢◌, ◌&&◌, Bool, true, false, List, Some, refl, sym, ap, ◌∙◌, subst}
use Rattle.pnp_labels.specs.declared.states.DevState.{DevState}
use Rattle.pnp_labels.specs.declared.states.DevState.TheVariants.{NoStack, NotStarted, Started, StopPending, Stopped, RemovePending}
use Rattle.pnp_labels.specs.declared.words.Minor.{Minor}
use Rattle.pnp_model.specs.Cores.{node_at}
use Rattle.pnp_model.specs.Diagram.{Row}
use Rattle.pnp_model.specs.Frames.{first_node}
use Rattle.pnp_model.specs.Laws.{is_up_to_now}
use Rattle.pnp_model.specs.Records.{Course, Job, Node, Phase, Stage, State, Walk, course_of}
use Rattle.pnp_model.specs.Tests.{is_told}
use Rattle.pnp_model.specs.Walks.{may_fail, state_after}
use Rattle.pnp_laws.specs.Effects.{Request, leaving_in, to_leave}
use Rattle.pnp_laws.specs.Kept.{FinishKeeps, IsGood, JobFits, OneIsNext, OperationFits, RebalanceAsks, RebalanceKeeps, RemovalAsks, RemovalKeeps, SurpriseEnds, SurpriseKeeps, is_stripped_next}
use Rattle.pnp_laws.specs.Kept as kept
use Rattle.pnp_laws.proofs.EffectViews.{acting_fits}
use Rattle.pnp_laws.proofs.Finishing.{head_bare, head_stripped, strips}
use Rattle.pnp_laws.proofs.FitsBy.{asked_is}
use Rattle.pnp_laws.proofs.FinishingSteps.{head_emptied, head_taken}
use Rattle.pnp_laws.proofs.Lists.{HeadIs, head_found, head_has}
use Rattle.pnp_laws.proofs.RebalanceSteps.{head_pending, head_started, head_stopped, head_stopping}
use Rattle.pnp_laws.proofs.RemovalSteps.{head_querying, head_refusing, head_restoring}
use Rattle.pnp_laws.proofs.SurpriseSteps.{head_told, told_or}
use Rattle.pnp_laws.proofs.Turns.{running_good}

-- the row of a request, by how it ends, of a device in this state: only requests that may fail end badly
abbrev pub Rows : Minor → DevState → Type 0
Rows minor x = (bad : Bool) → Row x minor (may_fail minor && bad) (state_after minor (may_fail minor && bad) x)

query_stop_rows : Rows Minor.QueryStop Started
query_stop_rows true = Row.query_stop_bad
query_stop_rows false = Row.query_stop

query_remove_rows : Rows Minor.QueryRemove Started
query_remove_rows true = Row.query_remove_bad
query_remove_rows false = Row.query_remove

start_rows : Rows Minor.Start NotStarted
start_rows true = Row.start_bad
start_rows false = Row.start

restart_rows : Rows Minor.Start Stopped
restart_rows true = Row.restart_bad
restart_rows false = Row.restart

told_up : (x : DevState) → is_told x ≡ true → is_up_to_now x ≡ true
told_up Started h = refl
told_up Stopped h = refl
told_up _ h = absurd (cc)

rows_as : (minor : Minor) (y x : DevState) → x ≡ y → Rows minor y → Rows minor x
rows_as minor y x same rows = subst (λ (z : DevState). Rows minor z) (sym same) rows

-- it was up before the operation, unless it is to lose its drivers
pub record Asked (minor : Minor) (x : DevState) : Type 0 where
  pub rows : Rows minor x
  pub up : minor ≢ Minor.Remove → is_up_to_now x ≡ true

module _ (own minor : Minor) (is : Some own ≡ Some minor) where
  asked : (x : DevState) → Asked own x → Asked minor x
  asked x h = let same : own ≡ minor = cc in subst (λ (m : Minor). Asked m x) same h

  asked_in : (x y : DevState) → x ≡ y → is_up_to_now y ≡ true → Rows own y → Asked minor x
  asked_in x y same up rows = asked x (record { rows = rows_as own y x same rows; up = λ other. ap is_up_to_now same ∙ up })

removes : (minor : Minor) (x : DevState) → Some Minor.Remove ≡ Some minor → Row x Minor.Remove false (state_after Minor.Remove false x) → Asked minor x
removes minor x is row = asked Minor.Remove minor is x (record { rows = λ bad. row; up = λ other. absurd (other refl) })

module _ (nodes : List Node) (node : Node) (minor : Minor) (at : node_at node.serial nodes ≡ Some node) where
  by_rebalance : (r : Job) (stage : Stage) → RebalanceKeeps r stage nodes → HeadIs node.serial r.todo → kept.asked_in Course.Rebalancing stage ≡ Some minor → Asked minor node.state
  by_rebalance r Stage.Asking keeps head is =
      asked_in Minor.QueryStop minor is node.state Started (head_started r.todo r.agreed node.serial node.state (head_has node.serial r.todo head) (keeps.each node.serial node at)) refl query_stop_rows
  by_rebalance r Stage.TakingBack keeps head is =
      asked_in Minor.CancelStop minor is node.state Started (head_started r.todo r.agreed node.serial node.state (head_has node.serial r.todo head) (keeps.each node.serial node at)) refl (λ bad. Row.cancel_stop_refused)
  by_rebalance r Stage.Cancelling keeps head is =
      asked_in Minor.CancelStop minor is node.state StopPending (head_pending r.todo node.serial node.state (head_has node.serial r.todo head) (keeps.each node.serial node at)) refl (λ bad. Row.cancel_stop)
  by_rebalance r Stage.Stopping keeps head is =
      asked_in Minor.Stop minor is node.state StopPending (head_stopping r.todo r.agreed node.serial node.state (head_has node.serial r.todo head) (keeps.each node.serial node at)) refl (λ bad. Row.stop)
  by_rebalance r Stage.Restarting keeps head is =
      asked_in Minor.Start minor is node.state Stopped (head_stopped r.todo node.serial node.state (head_has node.serial r.todo head) (keeps.each node.serial node at)) refl restart_rows
  by_rebalance r _ keeps head is = absurd (cc)

  by_removal : (o : Job) (stage : Stage) → RemovalKeeps o stage nodes → HeadIs node.serial o.todo → kept.asked_in Course.Removing stage ≡ Some minor → Asked minor node.state
  by_removal o Stage.Asking keeps head is =
      asked_in Minor.QueryRemove minor is node.state Started (head_querying o.todo o.agreed o.set node.serial node.state head (keeps.each node.serial node at)) refl query_remove_rows
  by_removal o Stage.TakingBack keeps head is =
      asked_in Minor.CancelRemove minor is node.state Started (head_refusing o.todo o.agreed node.serial node.state head (keeps.each node.serial node at)) refl (λ bad. Row.cancel_remove_refused)
  by_removal o Stage.Cancelling keeps head is =
      asked_in Minor.CancelRemove minor is node.state RemovePending (head_restoring o.todo node.serial node.state (head_has node.serial o.todo head) (keeps.each node.serial node at)) refl (λ bad. Row.cancel_remove)
  by_removal o Stage.Removing keeps head is = removes minor node.state is (strips node.state (head_stripped o.todo node.serial node.state head (keeps.each node.serial node at)))
  by_removal o _ keeps head is = absurd (cc)

  by_surprise : (o : Job) (stage : Stage) → SurpriseKeeps o stage nodes → HeadIs node.serial o.todo → kept.asked_in Course.Surprising stage ≡ Some minor → Asked minor node.state
  by_surprise o Stage.Telling keeps head is =
      let told = head_told o.todo o.set node.serial node.state (head_has node.serial o.todo head) (keeps.each node.serial node at) in
      asked Minor.SurpriseRemoval minor is node.state (record { rows = λ bad. (told_or node.state told).0; up = λ other. told_up node.state told })
  by_surprise o Stage.Removing keeps head is = removes minor node.state is (strips node.state (head_stripped o.todo node.serial node.state head (keeps.each node.serial node at)))
  by_surprise o _ keeps head is = absurd (cc)

  by_finish : (f : Job) (stage : Stage) → FinishKeeps f stage nodes → HeadIs node.serial f.todo → kept.asked_in Course.Finishing stage ≡ Some minor → Asked minor node.state
  by_finish f Stage.Removing keeps head is =
      let told = head_taken f.todo node.serial node.state head (keeps.each node.serial node at) in
      removes minor node.state is (strips node.state (ap is_stripped_next told))
  by_finish f _ keeps head is = absurd (cc)

asks_by : (course : Course) (o : Job) (nodes : List Node) (node : Node) (minor : Minor) → JobFits course o nodes → first_node nodes o.todo ≡ Some node → kept.asked_in course o.stage ≡ Some minor → Asked minor node.state
asks_by Course.Rebalancing r nodes node minor fits first is = let h = head_found nodes r.todo node first in by_rebalance nodes node minor h.1 r r.stage fits h.0 is
asks_by Course.Removing o nodes node minor fits first is = let h = head_found nodes o.todo node first in by_removal nodes node minor h.1 o o.stage fits h.0 is
asks_by Course.Surprising o nodes node minor fits first is = let h = head_found nodes o.todo node first in by_surprise nodes node minor h.1 o o.stage fits h.0 is
asks_by Course.Finishing f nodes node minor fits first is = let h = head_found nodes f.todo node first in by_finish nodes node minor h.1 f f.stage fits h.0 is

pub operation_asks : (o : Job) (nodes : List Node) (node : Node) (w : Walk) → OperationFits (Some o) nodes → first_node nodes o.todo ≡ Some node → o.walk ≡ Some w → Asked w.minor node.state
operation_asks o nodes node w fits first walk = asks_by (course_of o.kind) o nodes node w.minor fits first (asked_is o nodes w fits walk)

-- a request that is made of a device fits its state
pub request_rows : (s : State) → IsGood s → (node : Node) → node_at node.serial s.core.nodes ≡ Some node → (minor : Minor) (w : Walk) → Request s node minor w → Rows minor node.state
request_rows s good node at _ _ (Request.starts w acts) = rows_as Minor.Start NotStarted node.state (acting_fits s node.serial node (Phase.Starting w) at acts good).1 start_rows
request_rows s good node at _ _ (Request.undoes w acts) = rows_as Minor.Remove NotStarted node.state (acting_fits s node.serial node (Phase.Removing w) at acts good).1 (λ bad. Row.remove)
request_rows s good node at _ _ (Request.operates w asks) =
    (operation_asks asks.operation s.core.nodes node w (running_good s asks.operation asks.runs good).fits asks.first asks.walk).rows

-- who may leave has no drivers
leaves_by : (course : Course) (stage : Stage) (o : Job) (nodes : List Node) (node : Node) → o.stage ≡ stage → JobFits course o nodes → first_node nodes (leaving_in stage o.todo) ≡ Some node → node.state ≡ NoStack
leaves_by Course.Removing Stage.Settling o nodes node is fits first =
    let keeps = subst (λ (x : Stage). RemovalKeeps o x nodes) is fits in
    let h = head_found nodes o.todo node first in
    head_bare o.todo node.serial node.state h.0 (keeps.each node.serial node h.1)
leaves_by Course.Surprising Stage.Settling o nodes node is fits first =
    let keeps = subst (λ (x : Stage). SurpriseKeeps o x nodes) is fits in
    let h = head_found nodes o.todo node first in
    head_bare o.todo node.serial node.state h.0 (keeps.each node.serial node h.1)
leaves_by Course.Finishing Stage.Leaving f nodes node is fits first =
    let keeps = subst (λ (x : Stage). FinishKeeps f x nodes) is fits in
    let h = head_found nodes f.todo node first in
    head_emptied f.todo node.serial node.state h.0 (keeps.each node.serial node h.1)
leaves_by Course.Rebalancing Stage.Settling r nodes node is fits first = absurd (subst (λ (x : Stage). RebalanceAsks r x) is fits.asks)
leaves_by Course.Rebalancing Stage.Leaving r nodes node is fits first = absurd (subst (λ (x : Stage). RebalanceAsks r x) is fits.asks)
leaves_by Course.Removing Stage.Leaving o nodes node is fits first = absurd (subst (λ (x : Stage). RemovalAsks o x) is fits.asks)
leaves_by Course.Surprising Stage.Leaving o nodes node is fits first = absurd (subst (λ (x : Stage). SurpriseEnds o x) is fits.ends)
leaves_by Course.Finishing Stage.Settling f nodes node is fits first = absurd (subst (λ (x : Stage). OneIsNext f x) is fits.one)
leaves_by course _ o nodes node is fits first = absurd (cc)

pub left_bare : (o : Job) (nodes : List Node) (node : Node) → OperationFits (Some o) nodes → first_node nodes (to_leave o) ≡ Some node → node.state ≡ NoStack
left_bare o nodes node fits first = leaves_by (course_of o.kind) o.stage o nodes node refl fits first
