-- Relations go with drivers.
use Rattle.std.proofs.Common.{◌≡◌, ◌⊎◌, inl, inr, Bool, List, Some, refl, sym, subst}
use Rattle.resource_reqs.specs.Spelling.Answer.{assignment, no_fit, spent}
use Rattle.pnp_labels.specs.declared.label.Label.{Label}
use Rattle.pnp_labels.specs.declared.states.DevState.TheVariants.{NoStack}
use Rattle.pnp_labels.specs.declared.words.Minor.{Minor}
use Rattle.pnp_labels.specs.declared.words.Minor.TheVariants.{Start, QueryRemove, Remove, CancelRemove, Stop, QueryStop, CancelStop, SurpriseRemoval}
use Rattle.pnp_model.specs.Cores.{forget, node_at}
use Rattle.pnp_model.specs.Frames.{ended}
use Rattle.pnp_model.specs.Jobs as jobs
use Rattle.pnp_model.specs.Jobs.{JobMove}
use Rattle.pnp_model.specs.Machine as ma
use Rattle.pnp_model.specs.Rebalances as re
use Rattle.pnp_model.specs.Records.{Core, Found, Job, Node, Phase, Relation, State, Step}
use Rattle.pnp_model.specs.Starts as st
use Rattle.pnp_model.specs.Starts.{StartBeside}
use Rattle.pnp_model.specs.States.{with_core}
use Rattle.pnp_model.specs.Walks.{is_bad, state_after}
use Rattle.pnp_laws.proofs.IdleSteps.{ActivityStep, MachineStep, TaskStep, machine_step}
use Rattle.pnp_laws.proofs.Lists.{head_found}
use Rattle.pnp_laws.proofs.RebalanceRuns.{after_core}
use Rattle.pnp_laws.proofs.Stages.{ActStep, FinishAct, JobStep, RebalanceAct, RemovalAct, SurpriseAct}
use Rattle.pnp_promises.specs.Relations.{RelationsGoWithDriversLaw}

module _ (s : State) where
  -- of the relations after a step
  abbrev Gone : Label → List Relation → Type 0
  Gone label relations = (n : Node) × (node_at n.serial s.core.nodes ≡ Some n) × (label ≡ Label.State n.path NoStack) × (relations ≡ forget n.serial s.core.relations)

  abbrev Kept : Label → List Relation → Type 0
  Kept label relations = (relations ≡ s.core.relations) ⊎ Gone label relations

  abbrev P : Step → Type 0
  P step = Kept step.label step.state.core.relations

  walked : (node : Node) (minor : Minor) (bad : Bool) → node_at node.serial s.core.nodes ≡ Some node → Kept (Label.State node.path (state_after minor bad node.state)) (ended s.core node minor bad).relations
  walked node Remove bad there = inr (node, there, refl, refl)
  walked node Start bad there = inl refl
  walked node QueryRemove bad there = inl refl
  walked node CancelRemove bad there = inl refl
  walked node Stop bad there = inl refl
  walked node QueryStop bad there = inl refl
  walked node CancelStop bad there = inl refl
  walked node SurpriseRemoval bad there = inl refl

  task_kept : (step : Step) → TaskStep s step → P step
  task_kept _ (TaskStep.skips duty i j first other) = inl refl
  task_kept _ (TaskStep.misses i first gone) = inl refl
  task_kept _ (TaskStep.told node first there state) = inl refl
  task_kept _ (TaskStep.lists i node first) = inl refl
  task_kept _ (TaskStep.finds_gone node child found) = inl refl
  task_kept _ (TaskStep.joins node d there up found) = inl refl
  task_kept _ (TaskStep.troubles node problem bare other) = inl refl
  task_kept _ (TaskStep.installs node rank driver drivers bare chosen) = inl refl
  task_kept _ (TaskStep.begins kind node first alone there why) = inl refl

  beside_relations : (node : Node) (phase : Phase) (beside : StartBeside) (c : Core) → (ma.after_start node.serial phase beside (with_core c s)).core.relations ≡ c.relations
  beside_relations node phase StartBeside.On c = refl
  beside_relations node phase StartBeside.Needs c = refl
  beside_relations node phase StartBeside.Up c = refl
  beside_relations node phase StartBeside.Over c = refl

  start_kept : (node : Node) (phase : Phase) (m : st.StartMove) → node_at node.serial s.core.nodes ≡ Some node → ActivityStep s.core node phase m → Kept m.label m.core.relations
  start_kept node _ _ there (ActivityStep.adds d ds) = inl refl
  start_kept node _ _ there (ActivityStep.refused d ds) = inl refl
  start_kept node _ _ there (ActivityStep.fits phase plan budget search answer) = inl refl
  start_kept node _ _ there (ActivityStep.unplaced phase search) = inl refl
  start_kept node _ _ there (ActivityStep.tires phase search) = inl refl
  start_kept node _ _ there (ActivityStep.asks_start w waits more) = inl refl
  start_kept node _ _ there (ActivityStep.fails w over bad) = inl refl
  start_kept node _ _ there (ActivityStep.starts w over good) = inl refl
  start_kept node _ _ there (ActivityStep.asks_remove w waits more) = inl refl
  start_kept node _ _ there (ActivityStep.strips w over) = inr (node, there, refl, refl)
  start_kept node _ _ there (ActivityStep.empty problem none) = inl refl
  start_kept node _ _ there (ActivityStep.undoes problem d ds some) = inl refl

  found_kept : (o : Job) (found : Found) → Kept (re.searched s.core o found).label (re.searched s.core o found).core.relations
  found_kept o (assignment plan) = inl refl
  found_kept o no_fit = inl refl
  found_kept o spent = inl refl

  act_kept : (o : Job) (m : JobMove) → ActStep s o m → Kept m.label m.core.relations
  act_kept o _ (ActStep.rebalances _ _ course is (RebalanceAct.searches found budget answer)) = found_kept o found
  act_kept o _ (ActStep.rebalances _ _ course is RebalanceAct.sticks) = inl refl
  act_kept o _ (ActStep.rebalances _ _ course is RebalanceAct.commits) = inl refl
  act_kept o _ (ActStep.rebalances _ _ course is (RebalanceAct.failed node first)) = inl refl
  act_kept o _ (ActStep.rebalances _ _ course is RebalanceAct.closes) = inl refl
  act_kept o _ (ActStep.removes _ _ course is (RemovalAct.declines node first)) = inl refl
  act_kept o _ (ActStep.removes _ _ course is (RemovalAct.leaves node first inside)) = inl refl
  act_kept o _ (ActStep.removes _ _ course is (RemovalAct.ejects node first)) = inl refl
  act_kept o _ (ActStep.removes _ _ course is (RemovalAct.disables node first over target)) = inl refl
  act_kept o _ (ActStep.removes _ _ course is (RemovalAct.remains node problem first over other)) = inl refl
  act_kept o _ (ActStep.removes _ _ course is RemovalAct.closes) = inl refl
  act_kept o _ (ActStep.surprises _ _ course is (SurpriseAct.lags node first behind)) = inl refl
  act_kept o _ (ActStep.surprises _ _ course is (SurpriseAct.leaves node first why)) = inl refl
  act_kept o _ (ActStep.surprises _ _ course is (SurpriseAct.remains node first other over)) = inl refl
  act_kept o _ (ActStep.surprises _ _ course is (SurpriseAct.stays node first target there)) = inl refl
  act_kept o _ (ActStep.surprises _ _ course is SurpriseAct.closes) = inl refl
  act_kept o _ (ActStep.finishes _ _ course is (FinishAct.leaves node first)) = inl refl
  act_kept o _ (ActStep.finishes _ _ course is (FinishAct.holds node first)) = inl refl
  act_kept o _ (ActStep.finishes _ _ course is (FinishAct.closes none)) = inl refl

  lifted : (m : JobMove) → Kept m.label m.core.relations → P (ma.job_lifted s m)
  lifted m kept = subst (λ (c : Core). Kept m.label c.relations) (sym (after_core m.frame m.beside m.core s)) kept

  job_kept : (o : Job) (step : Step) → JobStep s o step → P step
  job_kept o _ (JobStep.asks node w asks) = inl refl
  job_kept o _ (JobStep.ends node w q ends after) = lifted (jobs.ends s.core node w q) (walked node w.minor (is_bad w) (head_found s.core.nodes o.todo node ends.first).1)
  job_kept o _ (JobStep.acts m idle act) = lifted m (act_kept o m act)

  machine_kept : (step : Step) → MachineStep s step → P step
  machine_kept step (MachineStep.operates o _ runs taken) = job_kept taken.now step taken.is
  machine_kept _ (MachineStep.starts node phase m there acts is) =
      subst (λ (relations : List Relation). Kept m.label relations) (sym (beside_relations node m.frame m.beside m.core)) (start_kept node phase m there is)
  machine_kept step (MachineStep.does _ none is) = task_kept step is

pub relations_go_with_drivers : RelationsGoWithDriversLaw
relations_go_with_drivers settings rack entries s label t run goes = machine_kept s (record { label = label; state = t }) (machine_step settings s (record { label = label; state = t }) goes)
