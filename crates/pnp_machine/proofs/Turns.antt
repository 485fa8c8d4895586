-- Which step is next, and when none is.
use Rattle.std.proofs.Common.{◌≡◌, ℕ, Bool, true, false, find, Option, Some, None, is_some, refl, sym, ◌∙◌, ap, subst, option_map, slice_get}
use Rattle.pnp_labels.specs.declared.label.Label.{Label}
use Rattle.pnp_labels.specs.declared.label.OpKind.{OpKind}
use Rattle.pnp_labels.specs.declared.words.Minor.{Minor}
use Rattle.pnp_model.specs.Cores.{node_at}
use Rattle.pnp_model.specs.Machine.{Steps, IsStep, IsQuiet, idle_next, task_next, activity_next, operation_next, is_waiting, begin_alone, next, next_of, is_ready}
use Rattle.pnp_model.specs.Records.{Activity, Job, State, Step, Settings, Doing, Walk}
use Rattle.pnp_model.specs.Records.Doing.{Does}
use Rattle.pnp_model.specs.Tasks.{list_step, start_step, begin_step}
use Rattle.pnp_laws.specs.Kept.{IsGood}
use Rattle.pnp_laws.proofs.Lookups.{ready_found}
use Rattle.device_stack.specs.Waiting.{minor_of, minor_if}
use Rattle.free_model.specs.Frees.{with_rack}
use Rattle.free_model.proofs.Quiets.{quiet_same}
use Rattle.pnp_machine.specs.Machines.{IsDone, IsDoing, IsTurn}
use Rattle.pnp_machine.specs.Managers.{IsOfRun}
use Rattle.pnp_machine.specs.Starts.{first_ready}
use Rattle.pnp_machine.specs.declared.tasks.Duty.{Duty}
use Rattle.pnp_machine.specs.declared.tasks.Duty.TheVariants as duties
use Rattle.pnp_machine.specs.declared.turn.Turn.{Turn}
use Rattle.pnp_machine.specs.declared.turn.Turn.TheVariants as turns
use Rattle.pnp_machine.proofs.ButBooks.{one_rack}
use Rattle.pnp_machine.proofs.Givens.{operation_goes}
use Rattle.pnp_machine.proofs.RunLaws.{of_run_good}

-- Requests that wait --------------------------------------------------------------

pub waits_is : (w : Option Walk) (minor : Minor) → Some minor ≡ minor_of w → is_waiting w ≡ true
waits_is None minor e = absurd (cc)
waits_is (Some w) minor e = by_wait w.waits refl e
  where
    by_wait : (b : Bool) → w.waits ≡ b → Some minor ≡ minor_of (Some w) → w.waits ≡ true
    by_wait true b e = b
    by_wait false b e = absurd (let none = ap (λ x. minor_if w x) b in cc)

pub waits_not : (w : Option Walk) → None ≡ minor_of w → is_waiting w ≡ false
waits_not None e = refl
waits_not (Some w) e = by_wait w.waits refl e
  where
    by_wait : (b : Bool) → w.waits ≡ b → None ≡ minor_of (Some w) → w.waits ≡ false
    by_wait false b e = b
    by_wait true b e = absurd (let some = ap (λ x. minor_if w x) b in cc)

none_mapped : (o : Option Activity) → option_map (λ (a : Activity). a.serial) o ≡ None → o ≡ None
none_mapped None h = refl
none_mapped (Some a) h = absurd (cc)

module _ (settings : Settings) (s : State) where
  -- The operation -------------------------------------------------------------------

  module _ (o : Job) (runs : s.operation ≡ Some o) where
    pub operate_next : is_waiting o.walk ≡ false → next settings s ≡ operation_next s o false
    operate_next awake = ap (next_of settings s) runs ∙ ap (operation_next s o) awake

    pub operate_waits : is_waiting o.walk ≡ true → IsQuiet settings s
    operate_waits waits = ap (next_of settings s) runs ∙ ap (operation_next s o) waits

    pub operate_moves : (label : Label) (t : State) → is_waiting o.walk ≡ false → IsDoing settings (operation_next s o false) label t → Steps settings s label t
    operate_moves label t awake h = subst (λ (x : Option (Doing Step)). IsStep settings x (record { label = label; state = t })) (sym (operate_next awake)) h

  -- Without one -----------------------------------------------------------------------

  module _ (none : s.operation ≡ None) where
    idle_is : next settings s ≡ idle_next settings s (find is_ready s.activities)
    idle_is = ap (next_of settings s) none

    pub act_moves : (label : Label) (t : State) → IsDoing settings (idle_next settings s (find is_ready s.activities)) label t → Steps settings s label t
    act_moves label t h = subst (λ (x : Option (Doing Step)). IsStep settings x (record { label = label; state = t })) (sym idle_is) h

    task_is : first_ready s.activities ≡ None → next settings s ≡ task_next settings s (slice_get s.tasks 0)
    task_is idle = idle_is ∙ ap (idle_next settings s) (none_mapped (find is_ready s.activities) idle)

    pub no_task : first_ready s.activities ≡ None → slice_get s.tasks 0 ≡ None → IsQuiet settings s
    no_task idle empty = task_is idle ∙ ap (task_next settings s) empty

    pub start_goes : (k : ℕ) → IsGood s → first_ready s.activities ≡ Some k → IsQuiet settings s → ⊥
    start_goes k good first q = by_found (find is_ready s.activities) refl first (sym idle_is ∙ q)
      where
        by_found : (o : Option Activity) → find is_ready s.activities ≡ o → option_map (λ (a : Activity). a.serial) o ≡ Some k → idle_next settings s o ≡ None → ⊥
        by_found None e f q = cc
        by_found (Some a) e f q =
            let at = (ready_found is_ready 0 s.activities a good.order e).1 in
            let here = good.phases a.serial a at in
            let is = ap (activity_next s a) here.1 in
            cc

  by_step : (step : Step) (label : Label) (t : State) → next settings s ≡ Some (Does step) → IsDone step label t → Steps settings s label t
  by_step step label t is (l, e) =
      subst (λ (o : Option (Doing Step)). IsStep settings o (record { label = label; state = t })) (sym is)
      (ap (λ x. a_step x t) l ∙ ap (a_step step.label) e)
    where
      a_step : Label → State → Step
      a_step x y = record { label = x; state = y }

  list_is : (k : ℕ) → IsTurn (turns.Do duties.List k) s → next settings s ≡ Some (Does (list_step s k (node_at k s.core.nodes)))
  list_is k (none, idle, first, may) = task_is none idle ∙ ap (task_next settings s) first

  start_is : (k : ℕ) → IsTurn (turns.Do duties.Start k) s → next settings s ≡ Some (Does (start_step settings s k (node_at k s.core.nodes)))
  start_is k (none, idle, first, may) = task_is none idle ∙ ap (task_next settings s) first

  begin_is : (kind : OpKind) (k : ℕ) → IsTurn (turns.Do (duties.Begin kind) k) s → next settings s ≡ Some (Does (begin_step s kind k (node_at k s.core.nodes)))
  begin_is kind k (none, idle, first, may) = task_is none idle ∙ ap (task_next settings s) first ∙ ap (begin_alone s kind k) may

  -- Where a step is next none is quiet ----------------------------------------------------

  do_goes : (duty : Duty) (k : ℕ) → IsTurn (turns.Do duty k) s → IsQuiet settings s → ⊥
  do_goes duties.List k turn q = let is = list_is k turn in cc
  do_goes duties.Start k turn q = let is = start_is k turn in cc
  do_goes (duties.Begin kind) k turn q = let is = begin_is kind k turn in cc

  pub turn_goes : (turn : Turn) → (turn ≡ turns.Quiet → ⊥) → IsOfRun s → IsTurn turn s → IsQuiet settings s → ⊥
  turn_goes turns.Quiet busy run is q = busy refl
  turn_goes turns.Operate busy run (o, runs, awake) q =
      let one = one_rack s run in
      let old : State = with_rack one.here s in
      let none : operation_next old o false ≡ None = ap (operation_next old o) (sym awake) ∙ ap (next_of settings old) (sym runs) ∙ quiet_same settings s one.here q in
      let goes = operation_goes one.told one.rack one.entries old one.reaches o runs awake in
      absurd (let no : false ≡ true = ap is_some (sym none) ∙ goes in cc)
  turn_goes (turns.Act k) busy run (none, first) q = start_goes none k (of_run_good s run) first q
  turn_goes (turns.Do duty k) busy run is q = do_goes duty k is q
