-- An operation is alone, and begins in its turn.
use Rattle.std.proofs.Common.{◌≡◌, Some, refl, subst}
use Rattle.std.specs.List.{slice_get}
use Rattle.resource_reqs.specs.Spelling.Answer.{assignment, no_fit, spent}
use Rattle.pnp_labels.specs.Texts.{Text}
use Rattle.pnp_labels.specs.declared.label.Label.{Label}
use Rattle.pnp_labels.specs.declared.label.OpKind.{OpKind}
use Rattle.pnp_model.specs.Cores.{node_at}
use Rattle.pnp_model.specs.Jobs.{JobMove}
use Rattle.pnp_model.specs.Machine as ma
use Rattle.pnp_model.specs.Rebalances as re
use Rattle.pnp_model.specs.Records.{Duty, Found, Job, Node, Phase, State, Step}
use Rattle.pnp_model.specs.Starts as st
use Rattle.pnp_laws.proofs.IdleSteps.{ActivityStep, MachineStep, TaskStep, machine_step}
use Rattle.pnp_laws.proofs.RunsFacts.{facts_are_kept}
use Rattle.pnp_laws.proofs.Stages.{ActStep, FinishAct, JobStep, RebalanceAct, RemovalAct, SurpriseAct}
use Rattle.pnp_promises.specs.Accepted.{task}
use Rattle.pnp_promises.specs.Alone.{OperationsAreAloneLaw, IsOfOperation, OperationsBeginInTurnLaw}

module _ (s : State) where
  abbrev P : Step → Type 0
  P step = IsOfOperation step.label

  found_own : (o : Job) (found : Found) → P (ma.job_lifted s (re.searched s.core o found))
  found_own o (assignment plan) = tt
  found_own o no_fit = tt
  found_own o spent = tt

  act_own : (o : Job) (m : JobMove) → ActStep s o m → P (ma.job_lifted s m)
  act_own o _ (ActStep.rebalances _ _ course at (RebalanceAct.searches found budget answer)) = found_own o found
  act_own o _ (ActStep.rebalances _ _ course at RebalanceAct.sticks) = tt
  act_own o _ (ActStep.rebalances _ _ course at RebalanceAct.commits) = tt
  act_own o _ (ActStep.rebalances _ _ course at (RebalanceAct.failed node first)) = tt
  act_own o _ (ActStep.rebalances _ _ course at RebalanceAct.closes) = tt
  act_own o _ (ActStep.removes _ _ course at (RemovalAct.declines node first)) = tt
  act_own o _ (ActStep.removes _ _ course at (RemovalAct.leaves node first inside)) = tt
  act_own o _ (ActStep.removes _ _ course at (RemovalAct.ejects node first)) = tt
  act_own o _ (ActStep.removes _ _ course at (RemovalAct.disables node first over target)) = tt
  act_own o _ (ActStep.removes _ _ course at (RemovalAct.remains node problem first over other)) = tt
  act_own o _ (ActStep.removes _ _ course at RemovalAct.closes) = tt
  act_own o _ (ActStep.surprises _ _ course at (SurpriseAct.lags node first behind)) = tt
  act_own o _ (ActStep.surprises _ _ course at (SurpriseAct.leaves node first why)) = tt
  act_own o _ (ActStep.surprises _ _ course at (SurpriseAct.remains node first other over)) = tt
  act_own o _ (ActStep.surprises _ _ course at (SurpriseAct.stays node first target there)) = tt
  act_own o _ (ActStep.surprises _ _ course at SurpriseAct.closes) = tt
  act_own o _ (ActStep.finishes _ _ course at (FinishAct.leaves node first)) = tt
  act_own o _ (ActStep.finishes _ _ course at (FinishAct.holds node first)) = tt
  act_own o _ (ActStep.finishes _ _ course at (FinishAct.closes none)) = tt

  job_own : (o : Job) (step : Step) → JobStep s o step → P step
  job_own o _ (JobStep.asks node w asks) = tt
  job_own o _ (JobStep.ends node w p ends after) = tt
  job_own o _ (JobStep.acts m none act) = act_own o m act

  machine_own : (o : Job) (step : Step) → s.operation ≡ Some o → MachineStep s step → P step
  machine_own o step runs (MachineStep.operates p _ own taken) = job_own taken.now step taken.is
  machine_own o _ runs (MachineStep.starts node phase m at acts is) = absurd (let none = acts.none in cc)
  machine_own o step runs (MachineStep.does _ none is) = absurd (cc)

pub operations_are_alone : OperationsAreAloneLaw
operations_are_alone settings rack entries s label t o run runs goes = (
  (facts_are_kept settings rack entries s run).alone o runs,
  machine_own s o (record { label = label; state = t }) runs (machine_step settings s (record { label = label; state = t }) goes),
)

-- In turn -----------------------------------------------------------------------------------------------

module _ (s : State) (kind : OpKind) (path : Text) where
  abbrev IsFirst : Type 0
  IsFirst = (n : Node) × (node_at n.serial s.core.nodes ≡ Some n) × (n.path ≡ path) × (slice_get s.tasks 0 ≡ Some (task (Duty.Begins kind) n))

  abbrev Begins : Step → Type 0
  Begins step = step.label ≡ Label.Begin kind path

  own_not : (label : Label) → IsOfOperation label → label ≡ Label.Begin kind path → ⊥
  own_not label own e = subst IsOfOperation e own

  found_not : (node : Node) (found : Found) → Begins (ma.start_lifted s node.serial (st.searched s.core node found)) → ⊥
  found_not node (assignment plan) e = cc
  found_not node no_fit e = cc
  found_not node spent e = cc

  start_not : (node : Node) (phase : Phase) (m : st.StartMove) → ActivityStep s.core node phase m → Begins (ma.start_lifted s node.serial m) → ⊥
  start_not node _ _ (ActivityStep.adds d ds) e = cc
  start_not node _ _ (ActivityStep.refused d ds) e = cc
  start_not node _ _ (ActivityStep.fits phase plan budget search answer) e = cc
  start_not node _ _ (ActivityStep.unplaced phase search) e = cc
  start_not node _ _ (ActivityStep.tires phase search) e = cc
  start_not node _ _ (ActivityStep.asks_start w waits more) e = cc
  start_not node _ _ (ActivityStep.fails w ended bad) e = cc
  start_not node _ _ (ActivityStep.starts w ended good) e = cc
  start_not node _ _ (ActivityStep.asks_remove w waits more) e = cc
  start_not node _ _ (ActivityStep.strips w ended) e = cc
  start_not node _ _ (ActivityStep.empty problem none) e = cc
  start_not node _ _ (ActivityStep.undoes problem d ds some) e = cc

  task_first : (step : Step) → TaskStep s step → Begins step → IsFirst
  task_first _ (TaskStep.begins own node first alone at why) e =
      let kinds : own ≡ kind = cc in
      (node, at, (let named : node.path ≡ path = cc in named), subst (λ (x : OpKind). slice_get s.tasks 0 ≡ Some (task (Duty.Begins x) node)) kinds first)
  task_first _ (TaskStep.skips duty k j first other) e = absurd (cc)
  task_first _ (TaskStep.misses k first none) e = absurd (cc)
  task_first _ (TaskStep.told node first at state) e = absurd (cc)
  task_first _ (TaskStep.lists k node first) e = absurd (cc)
  task_first _ (TaskStep.finds_gone node child found) e = absurd (cc)
  task_first _ (TaskStep.joins node d at up found) e = absurd (cc)
  task_first _ (TaskStep.troubles node problem bare other) e = absurd (cc)
  task_first _ (TaskStep.installs node rank driver drivers bare chosen) e = absurd (cc)

  machine_first : (step : Step) → MachineStep s step → Begins step → IsFirst
  machine_first step (MachineStep.operates o _ runs taken) e = absurd (own_not step.label (job_own s taken.now step taken.is) e)
  machine_first _ (MachineStep.starts node phase m at acts is) e = absurd (start_not node phase m is e)
  machine_first step (MachineStep.does _ none is) e = task_first step is e

pub operations_begin_in_turn : OperationsBeginInTurnLaw
operations_begin_in_turn settings rack entries s kind path t run goes =
    machine_first s kind path (record { label = Label.Begin kind path; state = t }) (machine_step settings s (record { label = Label.Begin kind path; state = t }) goes) refl
