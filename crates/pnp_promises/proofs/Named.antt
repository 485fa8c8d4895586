-- A line changes the device that it names, and no other.
use Rattle.std.proofs.Common.{ℕ, ◌≡◌, ◌⊎◌, inl, inr, Bool, true, false, List, [], ◌∷◌, ◌++◌, Some, None, refl, sym, ap, subst, ◌∙◌}
use Rattle.resource_reqs.specs.Spelling.Answer.{assignment, no_fit, spent}
use Rattle.pnp_labels.specs.declared.label.Label.{Label}
use Rattle.pnp_labels.specs.declared.states.Problem.{Problem}
use Rattle.pnp_labels.specs.declared.words.AskWhat.{AskWhat}
use Rattle.pnp_labels.specs.declared.words.Minor.{Minor}
use Rattle.pnp_labels.specs.declared.words.Minor.TheVariants.{Start, QueryRemove, Remove, CancelRemove, Stop, QueryStop, CancelStop, SurpriseRemoval}
use Rattle.pnp_model.specs.Books.{name_of}
use Rattle.pnp_model.specs.Cores.{bare, is_node, node_at, set_problem, stacked, with_holds, with_problem, with_stack, with_state}
use Rattle.pnp_model.specs.Frames.{core_after, ended, first_node}
use Rattle.pnp_model.specs.Jobs as jobs
use Rattle.pnp_model.specs.Jobs.{Beside, JobMove}
use Rattle.pnp_model.specs.Keyed.{changed_first, without_first}
use Rattle.pnp_model.specs.Machine as ma
use Rattle.pnp_model.specs.Rebalances as re
use Rattle.pnp_model.specs.Records.{Core, Course, Found, Job, Node, Phase, Stage, State, Step, course_of}
use Rattle.pnp_model.specs.Starts as st
use Rattle.pnp_model.specs.Starts.{StartBeside, own_part}
use Rattle.pnp_model.specs.States.{with_core}
use Rattle.pnp_model.specs.Walks.{is_bad, state_after}
use Rattle.pnp_laws.specs.Effects.{Turn}
use Rattle.pnp_laws.specs.Kept.{Ascending}
use Rattle.pnp_laws.proofs.IdleSteps.{ActivityStep, MachineStep, TaskStep, machine_step}
use Rattle.pnp_laws.proofs.Lists.{head_found}
use Rattle.pnp_laws.proofs.Lookups.{joined_keeps, left_from, map_from, node_from, own_serial, some_same}
use Rattle.pnp_laws.proofs.RebalanceRuns.{after_core}
use Rattle.pnp_laws.proofs.RunsStand.{reaches_kept}
use Rattle.pnp_laws.proofs.Stages.{ActStep, FinishAct, JobStep, RebalanceAct, RemovalAct, SurpriseAct}
use Rattle.pnp_promises.specs.Named.{ChangesBy, OnlyTheNamedDeviceChangesLaw}

-- a rebalance acts as it is
same_job : {s : State} (o p : Job) → Turn s o p → p.walk ≡ None → course_of p.kind ≡ Course.Rebalancing → o ≡ p
same_job o _ (Turn.same _) idle course = refl
same_job _ _ (Turn.queries o n c next none at willing) idle course = absurd (cc)
same_job _ _ (Turn.removes o n d ds c next none at goes full) idle course = absurd (cc)
same_job _ _ (Turn.settles o n c next none at goes empty) idle course = absurd (cc)
same_job _ _ (Turn.finishes f k n c next none ready at) idle course = absurd (cc)

module _ (s : State) (order : Ascending 0 s.core.nodes) (k : ℕ) (n : Node) (at : node_at k s.core.nodes ≡ Some n) where
  -- of the nodes after a step
  abbrev Named : Label → List Node → Type 0
  Named label nodes = (m : Node) → node_at k nodes ≡ Some m → (m ≡ n) ⊎ ChangesBy s label n m

  same : (m : Node) → node_at k s.core.nodes ≡ Some m → m ≡ n
  same m now = some_same (node_at k s.core.nodes) m n now at

  -- one device changes, by the line
  one : (label : Label) (j : ℕ) (f : Node → Node) → ((x : Node) → (f x).serial ≡ x.serial) → (j ≡ k → ChangesBy s label n (f n)) → Named label (changed_first (is_node j) f s.core.nodes)
  one label j f keeps says m now =
      elim (node_from j k f s.core.nodes m keeps now) [
        | inl (e, from) ↦
            let is : from.0 ≡ n = some_same (node_at k s.core.nodes) from.0 n from.1 at in
            inr (subst (λ (x : Node). ChangesBy s label n x) (sym (from.2 ∙ ap f is)) (says e))
        | inr other ↦ inl (same m other.1)
      ]

  -- it is the one that was looked at
  own : (node : Node) → node_at node.serial s.core.nodes ≡ Some node → node.serial ≡ k → node ≡ n
  own node there e = some_same (node_at k s.core.nodes) node n (subst (λ (i : ℕ). node_at i s.core.nodes ≡ Some node) e there) at

  left : (label : Label) (j : ℕ) → Named label (without_first (is_node j) s.core.nodes)
  left label j m now = inl (same m (left_from j k s.core.nodes m order now).1)

  trouble : (node : Node) (problem : Problem) → node_at node.serial s.core.nodes ≡ Some node → Named (Label.Trouble node.path problem) (set_problem node.serial (Some problem) s.core).nodes
  trouble node problem there = one (Label.Trouble node.path problem) node.serial (with_problem (Some problem)) (λ x. refl) (λ e. (inl (ap (λ (x : Node). x.path) (own node there e)), refl))

  walked : (node : Node) (minor : Minor) (bad : Bool) → node_at node.serial s.core.nodes ≡ Some node → Named (Label.State node.path (state_after minor bad node.state)) (ended s.core node minor bad).nodes
  walked node Remove bad there = one (Label.State node.path (state_after Remove bad node.state)) node.serial bare (λ x. refl) (λ e. (ap (λ (x : Node). x.path) (own node there e), refl))
  walked node Start bad there = one (Label.State node.path (state_after Start bad node.state)) node.serial (with_state (state_after Start bad node.state)) (λ x. refl) (λ e. (ap (λ (x : Node). x.path) (own node there e), refl))
  walked node QueryRemove bad there = one (Label.State node.path (state_after QueryRemove bad node.state)) node.serial (with_state (state_after QueryRemove bad node.state)) (λ x. refl) (λ e. (ap (λ (x : Node). x.path) (own node there e), refl))
  walked node CancelRemove bad there = one (Label.State node.path (state_after CancelRemove bad node.state)) node.serial (with_state (state_after CancelRemove bad node.state)) (λ x. refl) (λ e. (ap (λ (x : Node). x.path) (own node there e), refl))
  walked node Stop bad there = one (Label.State node.path (state_after Stop bad node.state)) node.serial (with_state (state_after Stop bad node.state)) (λ x. refl) (λ e. (ap (λ (x : Node). x.path) (own node there e), refl))
  walked node QueryStop bad there = one (Label.State node.path (state_after QueryStop bad node.state)) node.serial (with_state (state_after QueryStop bad node.state)) (λ x. refl) (λ e. (ap (λ (x : Node). x.path) (own node there e), refl))
  walked node CancelStop bad there = one (Label.State node.path (state_after CancelStop bad node.state)) node.serial (with_state (state_after CancelStop bad node.state)) (λ x. refl) (λ e. (ap (λ (x : Node). x.path) (own node there e), refl))
  walked node SurpriseRemoval bad there = one (Label.State node.path (state_after SurpriseRemoval bad node.state)) node.serial (with_state (state_after SurpriseRemoval bad node.state)) (λ x. refl) (λ e. (ap (λ (x : Node). x.path) (own node there e), refl))

  -- Tasks and starts ------------------------------------------------------------------------------------

  abbrev P : Step → Type 0
  P step = Named step.label step.state.core.nodes

  task_named : (step : Step) → TaskStep s step → P step
  task_named _ (TaskStep.skips duty i j first other) = λ m now. inl (same m now)
  task_named _ (TaskStep.misses i first gone) = λ m now. inl (same m now)
  task_named _ (TaskStep.told node first there state) = λ m now. inl (same m now)
  task_named _ (TaskStep.lists i node first) = λ m now. inl (same m now)
  task_named _ (TaskStep.finds_gone node child found) = λ m now. inl (same m now)
  task_named _ (TaskStep.joins node d there up found) = λ m now. inl (some_same (Some m) m n refl (sym now ∙ joined_keeps k s.core.nodes _ n at))
  task_named _ (TaskStep.troubles node problem bare other) = trouble node problem bare.at
  task_named _ (TaskStep.installs node rank driver drivers bare chosen) = one (Label.Install node.path rank (name_of s.core.rack driver)) node.serial (with_problem None) (λ x. refl) (λ e. (ap (λ (x : Node). x.path) (own node bare.at e), refl))
  task_named _ (TaskStep.begins kind node first alone there why) = λ m now. inl (same m now)

  -- what the machine does beside leaves the nodes
  beside_nodes : (j : ℕ) (phase : Phase) (beside : StartBeside) (c : Core) → (ma.after_start j phase beside (with_core c s)).core.nodes ≡ c.nodes
  beside_nodes j phase StartBeside.On c = refl
  beside_nodes j phase StartBeside.Needs c = refl
  beside_nodes j phase StartBeside.Up c = refl
  beside_nodes j phase StartBeside.Over c = refl

  start_named : (node : Node) (phase : Phase) (m : st.StartMove) → node_at node.serial s.core.nodes ≡ Some node → ActivityStep s.core node phase m → Named m.label m.core.nodes
  start_named node _ _ there (ActivityStep.adds d ds) = one (Label.Add node.path (name_of (core_after s.core AskWhat.Add node.path d).rack d) true) node.serial (with_stack (node.stack ++ d ∷ []) (stacked node.state)) (λ x. refl) (λ e. (ap (λ (x : Node). x.path) (own node there e), refl))
  start_named node _ _ there (ActivityStep.refused d ds) = λ m now. inl (same m now)
  start_named node _ _ there (ActivityStep.fits phase plan budget search answer) = one (Label.Assign node.path (own_part plan)) node.serial (with_holds (own_part plan)) (λ x. refl) (λ e. (ap (λ (x : Node). x.path) (own node there e), refl))
  start_named node _ _ there (ActivityStep.unplaced phase search) = λ m now. inl (same m now)
  start_named node _ _ there (ActivityStep.tires phase search) = λ m now. inl (same m now)
  start_named node _ _ there (ActivityStep.asks_start w waits more) = λ m now. inl (same m now)
  start_named node _ _ there (ActivityStep.fails w over bad) = walked node Start true there
  start_named node _ _ there (ActivityStep.starts w over good) = walked node Start false there
  start_named node _ _ there (ActivityStep.asks_remove w waits more) = λ m now. inl (same m now)
  start_named node _ _ there (ActivityStep.strips w over) = walked node Remove false there
  start_named node _ _ there (ActivityStep.empty problem none) = trouble node problem there
  start_named node _ _ there (ActivityStep.undoes problem d ds some) = trouble node problem there

  -- Operations ------------------------------------------------------------------------------------------

  found_there : (todo : List ℕ) (node : Node) → first_node s.core.nodes todo ≡ Some node → node_at node.serial s.core.nodes ≡ Some node
  found_there todo node first = (head_found s.core.nodes todo node first).1

  found_named : (o : Job) (found : Found) → Named (re.searched s.core o found).label (re.searched s.core o found).core.nodes
  found_named o (assignment plan) = λ m now. inl (same m now)
  found_named o no_fit = λ m now. inl (same m now)
  found_named o spent = λ m now. inl (same m now)

  rebalance_named : (o p : Job) (stage : Stage) (m : JobMove) → s.operation ≡ Some o → Turn s o p → p.walk ≡ None → course_of p.kind ≡ Course.Rebalancing → RebalanceAct s.core p stage m → Named m.label m.core.nodes
  rebalance_named o p _ _ runs turn idle course (RebalanceAct.searches found budget answer) = found_named p found
  rebalance_named o p _ _ runs turn idle course RebalanceAct.sticks =
      one (Label.Trouble p.path (re.trouble_of p.found)) p.target (with_problem (Some (re.trouble_of p.found))) (λ x. refl) (λ e. (inr (by_turn turn e), refl))
    where
      by_turn : Turn s o p → p.target ≡ k → (q : Job) × (s.operation ≡ Some q) × (q.target ≡ n.serial) × (p.path ≡ q.path)
      by_turn turn e = let is = same_job o p turn idle course in (p, runs ∙ ap Some is, e ∙ sym (own_serial k n s.core.nodes at), refl)
  rebalance_named o p _ _ runs turn idle course RebalanceAct.commits = λ m now.
      let from = map_from k (re.committed p.wanted p.target (re.movers p) (re.plan_of p.found)) s.core.nodes m (λ x. refl) now in
      let is : from.0 ≡ n = some_same (node_at k s.core.nodes) from.0 n from.1 at in
      inr (ap (λ (x : Node). x.problem) from.2 ∙ ap (λ (x : Node). x.problem) is, ap (λ (x : Node). x.state) from.2 ∙ ap (λ (x : Node). x.state) is)
  rebalance_named o p _ _ runs turn idle course (RebalanceAct.failed node first) = trouble node Problem.FailedStart (found_there p.todo node first)
  rebalance_named o p _ _ runs turn idle course RebalanceAct.closes = λ m now. inl (same m now)

  act_named : (o p : Job) (m : JobMove) → s.operation ≡ Some o → Turn s o p → p.walk ≡ None → ActStep s p m → Named m.label m.core.nodes
  act_named o p m runs turn idle (ActStep.rebalances stage _ course is act) = rebalance_named o p stage m runs turn idle course act
  act_named o p _ runs turn idle (ActStep.removes _ _ course is (RemovalAct.declines node first)) = λ m now. inl (same m now)
  act_named o p _ runs turn idle (ActStep.removes _ _ course is (RemovalAct.leaves node first inside)) = left (Label.Leave node.path) node.serial
  act_named o p _ runs turn idle (ActStep.removes _ _ course is (RemovalAct.ejects node first)) = left (Label.Ejected node.path) node.serial
  act_named o p _ runs turn idle (ActStep.removes _ _ course is (RemovalAct.disables node first over target)) = trouble node Problem.Disabled (found_there p.todo node first)
  act_named o p _ runs turn idle (ActStep.removes _ _ course is (RemovalAct.remains node problem first over other)) = trouble node problem (found_there p.todo node first)
  act_named o p _ runs turn idle (ActStep.removes _ _ course is RemovalAct.closes) = λ m now. inl (same m now)
  act_named o p _ runs turn idle (ActStep.surprises _ _ course is (SurpriseAct.lags node first behind)) = λ m now. inl (same m now)
  act_named o p _ runs turn idle (ActStep.surprises _ _ course is (SurpriseAct.leaves node first why)) = left (Label.Leave node.path) node.serial
  act_named o p _ runs turn idle (ActStep.surprises _ _ course is (SurpriseAct.remains node first other over)) = trouble node Problem.Held (found_there p.todo node first)
  act_named o p _ runs turn idle (ActStep.surprises _ _ course is (SurpriseAct.stays node first target there)) = λ m now. inl (same m now)
  act_named o p _ runs turn idle (ActStep.surprises _ _ course is SurpriseAct.closes) = λ m now. inl (same m now)
  act_named o p _ runs turn idle (ActStep.finishes _ _ course is (FinishAct.leaves node first)) = left (Label.Leave node.path) node.serial
  act_named o p _ runs turn idle (ActStep.finishes _ _ course is (FinishAct.holds node first)) = trouble node Problem.Held (found_there p.todo node first)
  act_named o p _ runs turn idle (ActStep.finishes _ _ course is (FinishAct.closes none)) = λ m now. inl (same m now)

  lifted : (m : JobMove) → Named m.label m.core.nodes → P (ma.job_lifted s m)
  lifted m named = subst (λ (c : Core). Named m.label c.nodes) (sym (after_core m.frame m.beside m.core s)) named

  job_named : (o p : Job) (step : Step) → s.operation ≡ Some o → Turn s o p → JobStep s p step → P step
  job_named o p _ runs turn (JobStep.asks node w asks) = λ m now. inl (same m now)
  job_named o p _ runs turn (JobStep.ends node w q ends after) = lifted (jobs.ends s.core node w q) (walked node w.minor (is_bad w) (found_there p.todo node ends.first))
  job_named o p _ runs turn (JobStep.acts m idle act) = lifted m (act_named o p m runs turn idle act)

  machine_named : (step : Step) → MachineStep s step → P step
  machine_named step (MachineStep.operates o _ runs taken) = job_named o taken.now step runs taken.turn taken.is
  machine_named _ (MachineStep.starts node phase m there acts is) =
      subst (λ (nodes : List Node). Named m.label nodes) (sym (beside_nodes node.serial m.frame m.beside m.core)) (start_named node phase m there is)
  machine_named step (MachineStep.does _ none is) = task_named step is

pub only_the_named_device_changes : OnlyTheNamedDeviceChangesLaw
only_the_named_device_changes settings rack entries s label t k n m run goes at now =
    machine_named s (reaches_kept settings rack entries s run).good.serials k n at (record { label = label; state = t }) (machine_step settings s (record { label = label; state = t }) goes) m now
