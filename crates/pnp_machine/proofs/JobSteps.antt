-- A step of an operation, as the machine's step.
use Rattle.std.proofs.Common.{◌≡◌, ℕ, Bool, false, List, Option, Some, None, refl, sym, ◌∙◌, ap, subst, option_map}
use Rattle.inf_reader.specs.declared.parts.Inf.{Inf}
use Rattle.pnp_labels.specs.Texts.{Text}
use Rattle.pnp_labels.specs.declared.label.Label.{Label}
use Rattle.pnp_labels.specs.declared.label.OpKind.{OpKind}
use Rattle.pnp_labels.specs.declared.label.RemoveStep.{RemoveStep}
use Rattle.pnp_labels.specs.declared.label.RemoveStep.TheVariants as removes
use Rattle.pnp_labels.specs.declared.words.Minor.{Minor}
use Rattle.pnp_model.specs.Frames.{first_node}
use Rattle.pnp_model.specs.Jobs.{Beside, JobMove}
use Rattle.pnp_model.specs.Machine.{IsStep, after_job, is_back, job_lifted, job_step, operation_next}
use Rattle.pnp_model.specs.Records.{Activity, Core, Course, Doing, Driver, Duty, Handle, Job, Node, Settings, State, Step, Task, Walk, course_of, doing_map}
use Rattle.pnp_model.specs.Records.Doing.{Does, Searches}
use Rattle.pnp_model.specs.Records.Phase.{Starting, Removing}
use Rattle.pnp_model.specs.States.{begin_activity, disable_path, put_task_first, relist, set_operation, unplug, with_core}
use Rattle.pnp_model.specs.Walks.{walk_of}
use Rattle.start_sequence.specs.Begins.{settings_of}
use Rattle.operation_frame.specs.Steps as frames
use Rattle.rebalance.specs.Steps as rebalances
use Rattle.rebalance.specs.declared.next.RebalanceStep.{RebalanceStep}
use Rattle.rebalance.specs.declared.next.RebalanceStep.TheVariants as steps
use Rattle.pnp_machine.specs.Devices.{Devices}
use Rattle.pnp_machine.specs.Doings.{core_with, step_of, StaysBeside}
use Rattle.pnp_machine.specs.Machines.{state_of, beside, label_of, disable_settled}
use Rattle.pnp_machine.specs.Rebalanced.{beside_rebalance, rebalance_label}

module _ (ds ds' : Devices) (rack rack' : List Driver) (disabled : List Text) (works : List Activity) (tasks : List Task) (stays : StaysBeside ds ds') (j j' : Job) where
  abbrev s : State
  s = state_of ds rack disabled works (Some j) tasks

  abbrev c' : Core
  c' = core_with ds' rack'

  -- the state between the step and what is done beside it
  abbrev mid : State
  mid = state_of ds' rack' disabled works (Some j') tasks

  mid_is : (c : Core) → c' ≡ c → mid ≡ set_operation (Some j') (with_core c s)
  mid_is c e =
      ap (λ d. state_of d rack' disabled works (Some j') tasks) stays
      ∙ ap (λ x. set_operation (Some j') (with_core x s)) (sym (ap (λ d. core_with d rack') stays) ∙ e)

  moved_is : (m : JobMove) → c' ≡ m.core → j' ≡ m.frame → mid ≡ set_operation (Some m.frame) (with_core m.core s)
  moved_is m c f = mid_is m.core c ∙ ap (λ x. set_operation (Some x) (with_core m.core s)) f

  lifted_is : (m : JobMove) (b : Beside) (label : Label) (x : State) → m.beside ≡ b → label ≡ m.label → x ≡ after_job m.frame b (with_core m.core s) → record { label = label; state = x } ≡ job_lifted s m
  lifted_is m b label x e l is =
      ap (λ (y : State). record { label = label; state = y }) (is ∙ sym (ap (λ y. after_job m.frame y (with_core m.core s)) e))
      ∙ ap (λ y. record { label = y; state = (job_lifted s m).state }) l

  -- Of an operation that removes devices -----------------------------------------------------

  module _ (settled : Option Text) where
    -- the path that is disabled is the one that was found before
    abbrev pub Disables : Option (Doing JobMove) → Type 0
    Disables next = (m : JobMove) (path : Text) → next ≡ Some (Does m) → m.beside ≡ Beside.Disabled path → settled ≡ Some path

    removed : (step : RemoveStep) (m : JobMove) → Disables (Some (Does m)) → frames.Moved m step c' j' → record { label = label_of step; state = beside step settled mid } ≡ job_lifted s m
    removed (removes.Did label) m own (b, l, c, f) = lifted_is m Beside.On label _ b l (moved_is m c f)
    removed (removes.Left label path born) m own (b, l, c, f) = lifted_is m (Beside.Left path born) label _ b l (ap (relist path born) (moved_is m c f))
    removed (removes.Disabled label) m own (path, shows, (b, l, c, f)) =
        lifted_is m (Beside.Disabled path) label _ b l (ap (λ x. disable_settled x mid) (own m path refl b) ∙ ap (disable_path path) (moved_is m c f))
    removed (removes.Ejected label path born) m own (b, l, c, f) = lifted_is m (Beside.Ejected path born) label _ b l (ap (λ x. relist path born (unplug born x)) (moved_is m c f))
    removed (removes.Over label) m own (b, l, c, f) = lifted_is m Beside.Over label _ b l (ap (set_operation None) (moved_is m c f))

    remove_moves : (next : Option (Doing JobMove)) (step : RemoveStep) → Disables next → frames.MovedBy next step c' j'
        → (settings : Settings) → IsStep settings (option_map (doing_map (job_lifted s)) next) (record { label = label_of step; state = beside step settled mid })
    remove_moves None step own h settings = absurd h
    remove_moves (Some (Does m)) step own h settings = removed step m own h
    remove_moves (Some (Searches problem by_answer)) step own h settings = absurd h

  -- Of a rebalance -----------------------------------------------------------------------------

  abbrev balanced : RebalanceStep → Step
  balanced step = record { label = rebalance_label step; state = beside_rebalance step j'.target mid }

  rebalanced : (step : RebalanceStep) (m : JobMove) → rebalances.Moved m step c' j' → balanced step ≡ job_lifted s m
  rebalanced (steps.Did label) m (b, l, c, f) = lifted_is m Beside.On label _ b l (moved_is m c f)
  rebalanced (steps.FailedRestart label serial) m (b, l, c, f) =
      lifted_is m (Beside.FailedRestart serial) label _ b l (ap (put_task_first (Duty.Begins OpKind.Surprise) serial) (moved_is m c f))
  rebalanced (steps.OverStart label) m (b, l, c, f) =
      lifted_is m Beside.OverStart label _ b l
      (ap (λ x. begin_activity j'.target (Starting (walk_of Minor.Start)) (set_operation None x)) (moved_is m c f)
      ∙ ap (λ (x : Job). begin_activity x.target (Starting (walk_of Minor.Start)) (set_operation None (with_core m.core s))) f)
  rebalanced (steps.OverUndo label) m (b, l, c, f) =
      lifted_is m Beside.OverUndo label _ b l
      (ap (λ x. begin_activity j'.target (Removing (walk_of Minor.Remove)) (set_operation None x)) (moved_is m c f)
      ∙ ap (λ (x : Job). begin_activity x.target (Removing (walk_of Minor.Remove)) (set_operation None (with_core m.core s))) f)
  rebalanced (steps.Over label) m (b, l, c, f) = lifted_is m Beside.Over label _ b l (ap (set_operation None) (moved_is m c f))

  rebalance_moves : (infs : List Inf) (budget : ℕ) (next : Option (Doing JobMove)) (step : RebalanceStep) → rebalances.MovedBy budget next step c' j'
      → IsStep (settings_of infs budget) (option_map (doing_map (job_lifted s)) next) (balanced step)
  rebalance_moves infs budget None step h = absurd h
  rebalance_moves infs budget (Some (Does m)) step h = rebalanced step m h
  rebalance_moves infs budget (Some (Searches problem by_answer)) step (found, answers, h) = (found, answers, rebalanced step (by_answer found) h)

  -- The step is the machine's --------------------------------------------------------------------

  module _ (course : Course) (of : course_of j.kind ≡ course) (in_world : Bool) (back : in_world ≡ is_back s j course) where
    next_is : operation_next s j false ≡ option_map (doing_map (job_lifted s)) (step_of course ds rack in_world j)
    next_is =
        ap (λ x. option_map (doing_map (job_lifted s)) (job_step s.core j x (is_back s j x) s.handles j.walk (first_node s.core.nodes j.todo))) of
        ∙ ap (λ b. option_map (doing_map (job_lifted s)) (job_step s.core j course b s.handles j.walk (first_node s.core.nodes j.todo))) (sym back)

    pub remove_done : (settled : Option Text) (step : RemoveStep) → Disables settled (step_of course ds rack in_world j) → frames.MovedBy (step_of course ds rack in_world j) step c' j'
        → (settings : Settings) → IsStep settings (operation_next s j false) (record { label = label_of step; state = beside step settled mid })
    remove_done settled step own h settings =
        subst (λ (x : Option (Doing Step)). IsStep settings x (record { label = label_of step; state = beside step settled mid })) (sym next_is) (remove_moves settled (step_of course ds rack in_world j) step own h settings)

    pub rebalance_done : (infs : List Inf) (budget : ℕ) (step : RebalanceStep) → rebalances.MovedBy budget (step_of course ds rack in_world j) step c' j'
        → IsStep (settings_of infs budget) (operation_next s j false) (balanced step)
    rebalance_done infs budget step h =
        subst (λ (x : Option (Doing Step)). IsStep (settings_of infs budget) x (balanced step)) (sym next_is) (rebalance_moves infs budget (step_of course ds rack in_world j) step h)

-- in a removal nothing is looked up in the world
pub none_back : (c : Core) (o : Job) (handles : List Handle) (walk : Option Walk) (n : Option Node) (b : Bool) → job_step c o Course.Removing false handles walk n ≡ job_step c o Course.Removing b handles walk n
none_back c o handles None n b = refl
none_back c o handles (Some w) None b = refl
none_back c o handles (Some w) (Some node) b = refl
