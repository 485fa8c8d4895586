-- A step of a start, as the machine's step.
use Rattle.std.proofs.Common.{◌≡◌, ℕ, false, List, [], ◌∷◌, ◌++◌, find, Option, Some, None, refl, sym, ◌∙◌, ap, subst, option_map, IsSome, is_some}
use Rattle.pnp_labels.specs.Texts.{Text}
use Rattle.pnp_labels.specs.declared.label.Label.{Label}
use Rattle.pnp_labels.specs.declared.label.OpKind.{OpKind}
use Rattle.inf_reader.specs.declared.parts.Inf.{Inf}
use Rattle.pnp_model.specs.Cores.{node_at, forget}
use Rattle.pnp_model.specs.Handles.{was_told}
use Rattle.pnp_model.specs.Machine.{Steps, IsStep, idle_next, activity_next, start_lifted, is_ready}
use Rattle.pnp_model.specs.Records.{Node, Core, Driver, Relation, Activity, Phase, State, Settings, Job, Task, Doing, doing_map, Duty}
use Rattle.pnp_model.specs.Records.Doing.{Does, Searches}
use Rattle.pnp_model.specs.Starts.{StartMove, StartBeside, act}
use Rattle.pnp_model.specs.States.{activity_at}
use Rattle.pnp_laws.proofs.Lookups.{own_serial, ready_found}
use Rattle.start_sequence.specs.Begins.{settings_of}
use Rattle.start_sequence.specs.Steps.{Moved, Done, DoneFor}
use Rattle.start_sequence.specs.declared.next.StartStep.{StartStep}
use Rattle.start_sequence.specs.declared.next.StartStep.TheVariants as steps
use Rattle.devnode_tree.specs.Cores.{at_nodes}
use Rattle.devnode_tree.specs.Trees.{Tree}
use Rattle.free_model.specs.Frees.{with_rack}
use Rattle.pnp_machine.specs.Devices.{Devices}
use Rattle.pnp_machine.specs.Doings.{core_with, StaysBeside}
use Rattle.pnp_machine.specs.Machines.{state_of, IsTurn}
use Rattle.pnp_machine.specs.Managers.{IsOfRun}
use Rattle.pnp_machine.specs.Starts.{works_after, ActsFor}
use Rattle.pnp_machine.specs.declared.turn.Turn.TheVariants as turns
use Rattle.pnp_machine.proofs.ButBooks.{one_rack}
use Rattle.pnp_machine.proofs.Givens.{start_unrelated, start_untold}
use Rattle.pnp_machine.proofs.RunLaws.{of_run_good}
use Rattle.pnp_machine.proofs.Turns.{act_moves}

abbrev pub label_of : StartStep → Label
label_of (steps.Did label) = label
label_of (steps.Needs label) = label
label_of (steps.Up label) = label
label_of (steps.Over label) = label

-- the tasks after it: where nothing fits a rebalance is to begin, and where the device is up it is to be listed
abbrev pub tasks_after : StartStep → ℕ → List Task → List Task
tasks_after (steps.Did label) k tasks = tasks
tasks_after (steps.Needs label) k tasks = tasks ++ record { kind = Duty.Begins OpKind.Rebalance; serial = k } ∷ []
tasks_after (steps.Up label) k tasks = tasks ++ record { kind = Duty.Listing; serial = k } ∷ []
tasks_after (steps.Over label) k tasks = tasks

abbrev move : Label → Core → Phase → StartBeside → StartMove
move label c phase beside = record { label = label; core = c; frame = phase; beside = beside }

move_is : (m : StartMove) (label : Label) (c : Core) (phase : Phase) (beside : StartBeside) → label ≡ m.label → c ≡ m.core → phase ≡ m.frame → m.beside ≡ beside
    → move label c phase beside ≡ m
move_is m label c phase beside l e p b =
    ap (λ x. move x c phase beside) l ∙ ap (λ x. move m.label x phase beside) e ∙ ap (λ x. move m.label m.core x beside) p
    ∙ ap (λ x. move m.label m.core m.frame x) (sym b)

-- the devices with other nodes
abbrev pub with_nodes : Devices → List Node → Devices
with_nodes ds nodes = record ds { tree = record ds.tree { nodes = nodes } }

-- a step leaves the number of the next node
pub nodes_alone : (ds : Devices) (t : Tree) → t.next ≡ ds.tree.next → record ds { tree = t } ≡ with_nodes ds t.nodes
nodes_alone ds t e = let put : ℕ → Devices = λ i. record ds { tree = record t { next = i } } in ap put e

pub beside_stays : (ds : Devices) (t : Tree) (rs : List Relation) → t.next ≡ ds.tree.next → StaysBeside ds (record ds { tree = t; relations = rs })
beside_stays ds t rs e = let put : ℕ → Devices = λ i. record ds { tree = record t { next = i }; relations = rs } in ap put e

module _ (ds ds' : Devices) (rack rack' : List Driver) (disabled : List Text) (works works' : List Activity) (operation : Option Job) (tasks tasks' : List Task)
    (stays : ds' ≡ with_nodes ds ds'.tree.nodes) where
  abbrev s : State
  s = state_of ds rack disabled works operation tasks

  abbrev s' : State
  s' = state_of ds' rack' disabled works' operation tasks'

  abbrev c' : Core
  c' = at_nodes ds'.tree.nodes (core_with ds rack')

  after_is : (w : List Activity) (t : List Task) → works' ≡ w → tasks' ≡ t → s' ≡ state_of (with_nodes ds ds'.tree.nodes) rack' disabled w operation t
  after_is w t e f =
      ap (λ d. state_of d rack' disabled works' operation tasks') stays
      ∙ ap (λ x. state_of (with_nodes ds ds'.tree.nodes) rack' disabled x operation tasks') e
      ∙ ap (λ x. state_of (with_nodes ds ds'.tree.nodes) rack' disabled w operation x) f

  lifted : (k : ℕ) (m : StartMove) (step : StartStep) (phase : Phase) → Moved m step c' phase → works' ≡ works_after step k phase works
      → tasks' ≡ tasks_after step k tasks → record { label = label_of step; state = s' } ≡ start_lifted s k m
  lifted k m (steps.Did label) phase (beside, l, c, frame) works_is tasks_is =
      ap (λ (x : State). record { label = label; state = x }) (after_is _ _ works_is tasks_is) ∙ ap (start_lifted s k) (move_is m label c' phase StartBeside.On l c frame beside)
  lifted k m (steps.Needs label) phase (beside, l, c) works_is tasks_is =
      ap (λ (x : State). record { label = label; state = x }) (after_is _ _ works_is tasks_is) ∙ ap (start_lifted s k) (move_is m label c' m.frame StartBeside.Needs l c refl beside)
  lifted k m (steps.Up label) phase (beside, l, c) works_is tasks_is =
      ap (λ (x : State). record { label = label; state = x }) (after_is _ _ works_is tasks_is) ∙ ap (start_lifted s k) (move_is m label c' m.frame StartBeside.Up l c refl beside)
  lifted k m (steps.Over label) phase (beside, l, c) works_is tasks_is =
      ap (λ (x : State). record { label = label; state = x }) (after_is _ _ works_is tasks_is) ∙ ap (start_lifted s k) (move_is m label c' m.frame StartBeside.Over l c refl beside)

  done : (infs : List Inf) (budget k : ℕ) (doing : Doing StartMove) (step : StartStep) (phase : Phase) → Done budget doing step c' phase
      → works' ≡ works_after step k phase works → tasks' ≡ tasks_after step k tasks
      → IsStep (settings_of infs budget) (Some (doing_map (start_lifted s k) doing)) (record { label = label_of step; state = s' })
  done infs budget k (Does m) step phase h works_is tasks_is = lifted k m step phase h works_is tasks_is
  done infs budget k (Searches problem by_answer) step phase (found, answers, h) works_is tasks_is =
      (found, answers, lifted k (by_answer found) step phase h works_is tasks_is)

  acted_by : (infs : List Inf) (budget : ℕ) (a : Activity) (n : Node) (step : StartStep) (phase : Phase) → node_at a.serial ds.tree.nodes ≡ Some n
      → forget a.serial ds.relations ≡ ds.relations → DoneFor budget (node_at a.serial ds.tree.nodes) (core_with ds rack) a.phase step c' phase
      → works' ≡ works_after step a.serial phase works → tasks' ≡ tasks_after step a.serial tasks
      → IsStep (settings_of infs budget) (activity_next s a (node_at a.serial ds.tree.nodes)) (record { label = label_of step; state = s' })
  acted_by infs budget a n step phase at alone acts works_is tasks_is =
      let for_node = subst (λ o. DoneFor budget o (core_with ds rack) a.phase step c' phase) at acts in
      let own : n.serial ≡ a.serial = own_serial a.serial n ds.tree.nodes at in
      let apart : forget n.serial ds.relations ≡ ds.relations = subst (λ k. forget k ds.relations ≡ ds.relations) (sym own) alone in
      subst (λ o. IsStep (settings_of infs budget) (activity_next s a o) (record { label = label_of step; state = s' })) (sym at)
      (subst (λ k. IsStep (settings_of infs budget) (Some (doing_map (start_lifted s k) (act s.core n a.phase))) (record { label = label_of step; state = s' })) (sym own)
      (done infs budget a.serial (act s.core n a.phase) step phase (for_node apart) works_is tasks_is))

-- the step of the lowest start is the machine's
pub acted : (ds ds' : Devices) (rack rack' : List Driver) (disabled : List Text) (works works' : List Activity) (operation : Option Job) (tasks tasks' : List Task) (infs : List Inf) (budget k : ℕ) (step : StartStep)
    → IsOfRun (state_of ds rack disabled works operation tasks) → IsTurn (turns.Act k) (state_of ds rack disabled works operation tasks)
    → ActsFor budget (activity_at k works) works ds rack step works' ds' rack' → tasks' ≡ tasks_after step k tasks
    → Steps (settings_of infs budget) (state_of ds rack disabled works operation tasks) (label_of step) (state_of ds' rack' disabled works' operation tasks')
acted ds ds' rack rack' disabled works works' operation tasks tasks' infs budget k step run (none, first) acts tasks_is =
    act_moves settings s none (label_of step) t (by_found (find is_ready works) refl first)
  where
    settings : Settings
    settings = settings_of infs budget

    s : State
    s = state_of ds rack disabled works operation tasks

    t : State
    t = state_of ds' rack' disabled works' operation tasks'

    by_found : (o : Option Activity) → find is_ready works ≡ o → option_map (λ a. a.serial) o ≡ Some k → IsStep settings (idle_next settings s o) (record { label = label_of step; state = t })
    by_found None e f = absurd (cc)
    by_found (Some a) e f =
        let good = of_run_good s run in
        let is : a.serial ≡ k = cc in
        let at = (ready_found is_ready 0 works a good.order e).1 in
        let here = good.phases a.serial a at in
        let own : ActsFor budget (activity_at a.serial works) works ds rack step works' ds' rack' =
        subst (λ i. ActsFor budget (activity_at i works) works ds rack step works' ds' rack') (sym is) acts in
        let by = subst (λ o. ActsFor budget o works ds rack step works' ds' rack') at own in
        let one = one_rack s run in
        acted_by ds ds' rack rack' disabled works works' operation tasks tasks' by.1.1 infs budget a here.0 step by.0 here.1
        (start_unrelated one.told one.rack one.entries (with_rack one.here s) one.reaches a.serial a at) by.1.0 by.2
        (subst (λ i. tasks' ≡ tasks_after step i tasks) (sym is) tasks_is)

-- the device of the lowest start is there
pub ready_is : (s : State) (k : ℕ) → IsOfRun s → IsTurn (turns.Act k) s → IsSome (node_at k s.core.nodes)
ready_is s k run (none, first) = by_found (find is_ready s.activities) refl first
  where
    by_found : (o : Option Activity) → find is_ready s.activities ≡ o → option_map (λ a. a.serial) o ≡ Some k → IsSome (node_at k s.core.nodes)
    by_found None e f = absurd (cc)
    by_found (Some a) e f =
        let good = of_run_good s run in
        let is : a.serial ≡ k = cc in
        let at = (ready_found is_ready 0 s.activities a good.order e).1 in
        let here = good.phases a.serial a at in
        ap is_some (subst (λ i. node_at i s.core.nodes ≡ Some here.0) is here.1)

-- and was not told that it has gone
pub ready_untold : (s : State) (k : ℕ) → IsOfRun s → IsTurn (turns.Act k) s → was_told (node_at k s.core.nodes) ≡ false
ready_untold s k run (none, first) = by_found (find is_ready s.activities) refl first
  where
    by_found : (o : Option Activity) → find is_ready s.activities ≡ o → option_map (λ a. a.serial) o ≡ Some k → was_told (node_at k s.core.nodes) ≡ false
    by_found None e f = absurd (cc)
    by_found (Some a) e f =
        let good = of_run_good s run in
        let is : a.serial ≡ k = cc in
        let at = (ready_found is_ready 0 s.activities a good.order e).1 in
        let one = one_rack s run in
        subst (λ i. was_told (node_at i s.core.nodes) ≡ false) is (start_untold one.told one.rack one.entries (with_rack one.here s) one.reaches a.serial a at)
