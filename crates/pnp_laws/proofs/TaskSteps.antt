-- Each task keeps what a run keeps; an operation begins only by `BeginsWell`.
use Rattle.std.proofs.Common.{ℕ, ◌≡◌, false, List, [], ◌∷◌, ◌++◌, Some, None, refl, sym, subst, arith}
use Rattle.pnp_model.specs.Records.{Node, Device, Activity, State, Step, Course, Job, course_of}
use Rattle.pnp_model.specs.Cores.{node_at, with_problem}
use Rattle.pnp_model.specs.Removals.{begun_removal}
use Rattle.pnp_model.specs.States.{entered, new_child}
use Rattle.pnp_model.specs.Starts.{adding}
use Rattle.pnp_model.specs.Tasks.{begin, join_step, install}
use Rattle.pnp_model.specs.Trees.{leaving}
use Rattle.pnp_laws.specs.Kept.{BeginsWell, Good, IsGood, Lawful, Fits, OperationFits, OrderFits, is_calm, is_stopped}
use Rattle.pnp_labels.specs.declared.states.DevState.{DevState}
use Rattle.pnp_labels.specs.declared.label.OpKind.{OpKind}
use Rattle.pnp_labels.specs.declared.states.DevState.TheVariants.{NoStack}
use Rattle.pnp_laws.proofs.IdleSteps.{Bare, TaskStep}
use Rattle.pnp_laws.proofs.Lookups.{entered_same, entered_other, InOrder-entered}
use Rattle.pnp_laws.proofs.Diagrams.{Each_joined}
use Rattle.pnp_laws.proofs.Kept.{lawful_by, Good_joined, Good_nodes}
use Rattle.pnp_laws.proofs.StartSteps.{lawful_changed}
use Rattle.pnp_laws.proofs.FinishingSteps.{fits_begun_finish}
use Rattle.pnp_laws.proofs.RebalanceSteps.{fits_begun_change, fits_begun_rebalance}
use Rattle.pnp_laws.proofs.RemovalSteps.{fits_begun_removal}
use Rattle.pnp_laws.proofs.SurpriseSteps.{fits_begun_surprise}

-- only tasks, world and the like change
pub unchanged : (s t : State) → t.next_serial ≡ s.next_serial → t.core.nodes ≡ s.core.nodes → t.activities ≡ s.activities → t.operation ≡ s.operation →
    IsGood s → Lawful t
unchanged s t a b c d good = lawful_by t s.next_serial s.core.nodes s.activities s.operation a b c d good

drivers_fit : (lower : List ℕ) (d : ℕ) (upper : List ℕ) → Fits (adding (lower ++ d ∷ upper)) NoStack
drivers_fit [] d upper = refl
drivers_fit (x ∷ lower) d upper = refl

module _ (s : State) (none : s.operation ≡ None) (good : Good s.next_serial s.core.nodes s.activities None) where
  joins : (node : Node) (d : Device) → Lawful (join_step s node d).state
  joins node d =
      let new = new_child node.serial d s in
      lawful_by _ _ _ s.activities None refl refl refl none
      (Good_joined s.next_serial new s.core.nodes s.activities None refl refl (record { none = λ h. refl; some = λ u h. refl; root = λ z. absurd (let b = good.begun in omega arith) })
      (Each_joined (λ k x. is_calm x) new s.core.nodes refl good.fits) good)

  installs : (node : Node) (rank driver : ℕ) (drivers : List ℕ) → Bare s node → Fits (adding drivers) NoStack → Lawful (install s node rank driver drivers).state
  installs node rank driver drivers b fit =
      let a : Activity = record { serial = node.serial; phase = adding drivers } in
      lawful_changed s _ (with_problem None) node (entered a s.activities) refl refl refl none (λ x. refl) b.at (good.stacks node.serial node b.at) (good.fits node.serial node b.at)
      (InOrder-entered 0 a s.activities (omega arith) good.order b.free)
      (λ k d. entered_other a k s.activities d)
      (λ x h.
      let here = entered_same a s.activities b.free in
      let same : a ≡ x = cc in
      ((λ z. let root = (good.stacks node.serial node b.at).root z in let state = b.state in cc), subst (λ (y : Activity). Fits y.phase node.state) same (subst (λ (y : DevState). Fits (adding drivers) y) (sym b.state) fit)))
      good

  -- an operation begins
  begins : (kind : OpKind) (node : Node) (o : Job) → s.activities ≡ [] → OperationFits (Some o) s.core.nodes → Lawful (begin s kind node o).state
  begins kind node o alone fits =
      lawful_by _ s.next_serial s.core.nodes [] (Some o) refl refl alone refl
      (Good_nodes s.next_serial s.core.nodes s.activities [] None (Some o) tt (λ k a g. absurd (cc)) refl fits good)

  removes : (kind : OpKind) (node : Node) → course_of kind ≡ Course.Removing → s.activities ≡ [] → OrderFits node.serial (leaving s.core node.serial) → ((j : ℕ) (n : Node) → node_at j s.core.nodes ≡ Some n → is_stopped n.state ≡ false) → Lawful (begin s kind node (begun_removal s.core kind node)).state
  removes kind node course alone order settled =
      begins kind node _ alone (fits_begun_removal s kind node (leaving s.core node.serial) course (record { distinct = order.distinct; rootless = order.rootless; none_stopped = λ k n h at. settled k n at }) good)

  pub lawful_task : (step : Step) → IsGood s → BeginsWell s.core s.tasks → TaskStep s step → Lawful step.state
  lawful_task _ g well (TaskStep.skips kind k j first calm) = unchanged s _ refl refl refl refl g
  lawful_task _ g well (TaskStep.misses k first gone) = unchanged s _ refl refl refl refl g
  lawful_task _ g well (TaskStep.told node first at told) = unchanged s _ refl refl refl refl g
  lawful_task _ g well (TaskStep.lists k node first) = unchanged s _ refl refl refl refl g
  lawful_task _ g well (TaskStep.finds_gone node child gone) = unchanged s _ refl refl refl refl g
  lawful_task _ g well (TaskStep.joins node d at up below) = joins node d
  lawful_task _ g well (TaskStep.troubles node problem b fine) =
      lawful_changed s _ (with_problem (Some problem)) node s.activities refl refl refl none (λ x. refl) b.at (good.stacks node.serial node b.at) (good.fits node.serial node b.at) good.order
      (λ k d. refl) (λ a h. absurd (let free = b.free in cc)) good
  lawful_task _ g well (TaskStep.installs node rank driver drivers b chosen) =
      installs node rank driver drivers b (subst (λ (ds : List ℕ). Fits (adding ds) NoStack) (sym chosen.all) (drivers_fit chosen.lower chosen.driver chosen.upper))
  lawful_task _ g well (TaskStep.begins OpKind.Rebalance node first alone at (waits, free)) = begins OpKind.Rebalance node _ alone (fits_begun_rebalance s node at waits good)
  lawful_task _ g well (TaskStep.begins OpKind.Change node first alone at (state, there)) = begins OpKind.Change node _ alone (fits_begun_change s node _ at state (well.up OpKind.Change node.serial first) good)
  lawful_task _ g well (TaskStep.begins OpKind.Disable node first alone at enabled) = removes OpKind.Disable node refl alone (well.orders node.serial node at (well.up OpKind.Disable node.serial first)) (well.settled OpKind.Disable node.serial first refl)
  lawful_task _ g well (TaskStep.begins OpKind.Eject node first alone at h) = removes OpKind.Eject node refl alone (well.orders node.serial node at (well.up OpKind.Eject node.serial first)) (well.settled OpKind.Eject node.serial first refl)
  lawful_task _ g well (TaskStep.begins OpKind.Finish node first alone at h) = begins OpKind.Finish node _ alone (fits_begun_finish s node good)
  lawful_task _ g well (TaskStep.begins OpKind.Surprise node first alone at h) =
      let order = well.orders node.serial node at (well.up OpKind.Surprise node.serial first) in
      begins OpKind.Surprise node _ alone (fits_begun_surprise s node (leaving s.core node.serial) order.distinct order.rootless order.last good)
