-- A step of the operation that runs: what it needs, and that it is the machine's step.
use Rattle.std.proofs.Common.{◌≡◌, ◌≢◌, ℕ, Bool, false, List, Option, Some, None, Result, Ok, Err, IfOk, OnErr, IfSome, option_map, refl, sym, ◌∙◌, ap, subst}
use Rattle.std.specs.declared.alloc.AllocError.{AllocError}
use Rattle.inf_reader.specs.declared.parts.Inf.{Inf}
use Rattle.pnp_labels.specs.Texts.{Text}
use Rattle.pnp_labels.specs.declared.label.Label.{Label}
use Rattle.pnp_labels.specs.declared.label.RemoveStep.{RemoveStep}
use Rattle.pnp_labels.specs.declared.label.RemoveStep.TheVariants as removes
use Rattle.pnp_model.specs.Frames.{first_node}
use Rattle.pnp_model.specs.Jobs.{Beside, JobMove}
use Rattle.pnp_model.specs.Machine.{Steps, is_back, is_waiting, job_step, operation_next}
use Rattle.pnp_model.specs.Records.{Activity, Core, Course, Doing, Driver, Job, Settings, State, Task, course_of}
use Rattle.pnp_model.specs.Records.Doing.{Does, Searches}
use Rattle.pnp_model.specs.States.{activity_at}
use Rattle.pnp_laws.proofs.JoinMachine.{reaches_born}
use Rattle.pnp_laws.proofs.Lists.{head_found}
use Rattle.start_sequence.specs.Begins.{settings_of}
use Rattle.rebalance.specs.declared.next.RebalanceStep.{RebalanceStep}
use Rattle.rebalance.specs.Steps as rebalances
use Rattle.rebalance.proofs.Given.{rebalance_ready}
use Rattle.operation_frame.specs.Nodes.{IsStripped}
use Rattle.operation_frame.specs.Steps as frames
use Rattle.operation_frame.specs.Steps.{HasNext}
use Rattle.operation_frame.proofs.Requests.{ok_then}
use Rattle.query_remove.specs.Parts as query
use Rattle.surprise_remove.specs.Steps as surprise
use Rattle.surprise_remove.specs.FinishSteps as finish
use Rattle.free_model.specs.Frees.{with_rack}
use Rattle.pnp_machine.specs.Devices.{Devices}
use Rattle.pnp_machine.specs.Machines.{state_of, beside, beside_made, label_of, IsLabelOf, IsNoRoot, IsNew, IsNewPath, IsDoing, IsTurn, settled_path}
use Rattle.pnp_machine.specs.Managers.{IsOfRun}
use Rattle.pnp_machine.specs.Operations.{operation_of}
use Rattle.pnp_machine.specs.declared.operation.Operation.{Operation}
use Rattle.pnp_machine.specs.Doings.{Rebalances, Removes, StaysBeside, core_with, step_of}
use Rattle.pnp_machine.specs.Rebalanced.{beside_rebalance, rebalance_label}
use Rattle.pnp_machine.specs.declared.turn.Turn.TheVariants as turns
use Rattle.pnp_machine.proofs.ButBooks.{one_rack}
use Rattle.pnp_machine.proofs.Fresh.{settles_new}
use Rattle.pnp_machine.proofs.Givens.{alone, operation_goes, removal_goes, surprise_goes, finish_goes}
use Rattle.pnp_machine.proofs.JobSteps.{none_back, rebalance_done, remove_done}
use Rattle.pnp_machine.proofs.Settling.{Settles, disables, ejects, not_disabled, not_ejected, other_plain, settled_is}
use Rattle.pnp_machine.proofs.Turns.{operate_moves}

-- What a step needs -----------------------------------------------------------------------

same_running : (x y : Job) → Some x ≡ Some y → x ≡ y
same_running x y e = cc

-- the operation that runs does not wait
pub awake_is : (s : State) (j : Job) → IsTurn turns.Operate s → s.operation ≡ Some j → is_waiting j.walk ≡ false
awake_is s j (other, runs, awake) is =
    subst (λ (x : Job). is_waiting x.walk ≡ false) (same_running other j (sym runs ∙ is)) awake

-- what is printed and what is there then are told by equal ones
pub told_by : (settings : Settings) (s : State) (label label' : Label) (t t' : State) → label ≡ label' → t ≡ t' → Steps settings s label' t' → Steps settings s label t
told_by settings s label label' t t' l e h = subst (λ x. Steps settings s x t) (sym l) (subst (λ x. Steps settings s label' x) (sym e) h)

-- the state by its parts, where this operation runs
pub was_is : (ds : Devices) (rack : List Driver) (disabled : List Text) (works : List Activity) (tasks : List Task) (s : State) (o : Option Operation) (p : Operation)
    → state_of ds rack disabled works (option_map operation_of o) tasks ≡ s → o ≡ Some p → state_of ds rack disabled works (Some (operation_of p)) tasks ≡ s
was_is ds rack disabled works tasks s o p is runs = ap (λ x. state_of ds rack disabled works (option_map operation_of x) tasks) (sym runs) ∙ is

-- room that was made leaves paths, starts and tasks
pub room_made : (f : State → State) (ds : Devices) (rack : List Driver) (j : Job) (paths paths' : List Text) (works works' : List Activity) (tasks tasks' : List Task) → paths ≡ paths' → works ≡ works' → tasks ≡ tasks'
    → f (state_of ds rack paths works (Some j) tasks) ≡ f (state_of ds rack paths' works' (Some j) tasks')
room_made f ds rack j paths paths' works works' tasks tasks' a b c =
    ap (λ x. f (state_of ds rack x works (Some j) tasks)) a ∙ ap (λ x. f (state_of ds rack paths' x (Some j) tasks)) b ∙ ap (λ x. f (state_of ds rack paths' works' (Some j) x)) c

-- while it runs no device starts
pub none_starts : (s : State) → IsOfRun s → (j : Job) → s.operation ≡ Some j → (k : ℕ) (works : List Activity) → works ≡ s.activities → activity_at k works ≡ None
none_starts s run j runs k works same =
    let one = one_rack s run in
    ap (activity_at k) (same ∙ alone one.told one.rack one.entries (with_rack one.here s) one.reaches j runs)

-- What the machine may do beside a step --------------------------------------------------------

-- who is ejected is not the root, and a path that is disabled was found before, and was not
pub record IsAllowed (settled : Option Text) (disabled : List Text) (next : Option (Doing JobMove)) : Type 0 where
  pub root : (m : JobMove) (path : Text) (born : ℕ) → next ≡ Some (Does m) → m.beside ≡ Beside.Ejected path born → born ≢ 0
  pub new : (m : JobMove) (path : Text) → next ≡ Some (Does m) → m.beside ≡ Beside.Disabled path → (settled ≡ Some path) × IsNewPath settled disabled

module _ (settled : Option Text) (disabled : List Text) (next : Option (Doing JobMove)) (allowed : IsAllowed settled disabled next) (c' : Core) (j' : Job) (step : RemoveStep) (h : frames.MovedBy next step c' j') where
  pub no_root : IsNoRoot step
  no_root = by next step allowed h
    where
      by : (next : Option (Doing JobMove)) (step : RemoveStep) → IsAllowed settled disabled next → frames.MovedBy next step c' j' → IsNoRoot step
      by None step a h = absurd h
      by (Some (Searches problem by_answer)) step a h = absurd h
      by (Some (Does m)) (removes.Ejected label path born) a (b, l, c, f) = a.root m path born refl b
      by (Some (Does m)) _ a h = tt

  pub is_new : IsNew step settled disabled
  is_new = by next step allowed h
    where
      by : (next : Option (Doing JobMove)) (step : RemoveStep) → IsAllowed settled disabled next → frames.MovedBy next step c' j' → IsNew step settled disabled
      by None step a h = absurd h
      by (Some (Searches problem by_answer)) step a h = absurd h
      by (Some (Does m)) (removes.Disabled label) a (path, shows, (b, l, c, f)) = (a.new m path refl b).1
      by (Some (Does m)) _ a h = tt

-- in a removal
module _ (s : State) (run : IsOfRun s) (o : Job) (runs : s.operation ≡ Some o) (course : course_of o.kind ≡ Course.Removing) where
  settled_born : (m : JobMove) (born : ℕ) (h : Settles s.core o m.beside) → born ≡ h.node.born → born ≢ 0
  settled_born m born h own zero =
      let one = one_rack s run in
      let old : State = with_rack one.here s in
      let goes = (removal_goes one.told one.rack one.entries old one.reaches o runs course).1 in
      let settling = subst (λ x. query.SettlesStripped s.core.nodes o x) h.stage goes in
      let stripped = subst (λ x. IfSome x (IsStripped s.core.nodes)) h.first settling in
      let at = (head_found s.core.nodes o.todo h.node h.first).1 in
      stripped.0.no_root ((reaches_born one.told one.rack one.entries old one.reaches).first h.node.serial h.node at (sym own ∙ zero))

  pub removal_allowed : (in_world : Bool) (settled : Option Text) → settled ≡ settled_path o s.core.nodes
      → IsAllowed settled s.disabled (job_step s.core o Course.Removing in_world s.handles o.walk (first_node s.core.nodes o.todo))
  removal_allowed in_world settled set =
      record {
        root = λ m path born e b. let h = ejects s.core o s.handles in_world m e path born b in settled_born m born h (h.ejects path born b);
        new = λ m path e b.
            let h = disables s.core o s.handles in_world m e path b in
            let own = h.disables path b in
            let found = set ∙ settled_is s.core o m.beside h own.1 in
            let one = one_rack s run in (
              found ∙ ap Some (sym own.0),
              subst (λ x. IsNewPath x s.disabled) (sym found)
                  (settles_new one.told one.rack one.entries (with_rack one.here s) one.reaches o h.node runs course h.stage h.first own.1 own.2),
            );
      }

-- in a surprise removal and its end
pub other_allowed : (s : State) (o : Job) (course : Course) → (course ≡ Course.Rebalancing → ⊥) → (course ≡ Course.Removing → ⊥) → (in_world : Bool) (settled : Option Text)
    → IsAllowed settled s.disabled (job_step s.core o course in_world s.handles o.walk (first_node s.core.nodes o.todo))
other_allowed s o course a b in_world settled =
    let plain = other_plain s.core o s.handles course a b in_world o.walk (first_node s.core.nodes o.todo) in
    record {
      root = λ m path born e x. absurd (not_ejected path born m.beside x (plain m e));
      new = λ m path e x. absurd (not_disabled path m.beside x (plain m e));
    }

module _ (ds : Devices) (rack : List Driver) (disabled : List Text) (works : List Activity) (tasks : List Task) (s : State) where
  abbrev pub was : Job → State
  was j = state_of ds rack disabled works (Some j) tasks

  runs : (j : Job) → was j ≡ s → s.operation ≡ Some j
  runs j is = ap (λ (x : State). x.operation) (sym is)

  -- What each needs ---------------------------------------------------------------------

  module _ (run : IsOfRun s) (j : Job) (is : was j ≡ s) where
    pub rebalance_needs : IsTurn turns.Operate s → rebalances.HasNext (first_node ds.tree.nodes j.todo) j.walk j.stage
    rebalance_needs turn =
        let one = one_rack s run in
        let old : State = with_rack one.here s in
        let ready = rebalance_ready old j (operation_goes one.told one.rack one.entries old one.reaches j (runs j is) (awake_is s j turn (runs j is))) in
        subst (λ (x : State). rebalances.HasNext (first_node x.core.nodes j.todo) j.walk j.stage) (sym is) ready

    pub removal_needs : course_of j.kind ≡ Course.Removing → HasNext ds.tree.nodes j j.stage × query.SettlesStripped ds.tree.nodes j j.stage
    removal_needs course =
        let one = one_rack s run in
        let goes = removal_goes one.told one.rack one.entries (with_rack one.here s) one.reaches j (runs j is) course in
        subst (λ (x : State). HasNext x.core.nodes j j.stage × query.SettlesStripped x.core.nodes j j.stage) (sym is) (goes.0, goes.1)

    pub surprise_needs : course_of j.kind ≡ Course.Surprising
        → HasNext ds.tree.nodes j j.stage × surprise.DirectSays ds.tree.nodes ds.relations j j.stage × surprise.SettlesStripped ds.tree.nodes ds.relations j ds.handles j.stage
    surprise_needs course =
        let one = one_rack s run in
        let goes = surprise_goes one.told one.rack one.entries (with_rack one.here s) one.reaches j (runs j is) course in
        subst (λ (x : State). HasNext x.core.nodes j j.stage × surprise.DirectSays x.core.nodes x.core.relations j j.stage × surprise.SettlesStripped x.core.nodes x.core.relations j x.handles j.stage)
        (sym is) (goes.0, goes.1, goes.2)

    pub finish_needs : course_of j.kind ≡ Course.Finishing → finish.HasCurrent ds.tree.nodes j j.stage × finish.LeavesStripped ds.tree.nodes j j.stage
    finish_needs course =
        let one = one_rack s run in
        let goes = finish_goes one.told one.rack one.entries (with_rack one.here s) one.reaches j (runs j is) course in
        subst (λ (x : State). finish.HasCurrent x.core.nodes j j.stage × finish.LeavesStripped x.core.nodes j j.stage) (sym is) (goes.0, goes.1)

  -- What the machine may do beside it ---------------------------------------------------------

  pub removal_allows : IsOfRun s → (j : Job) → was j ≡ s → course_of j.kind ≡ Course.Removing → (in_world : Bool) (settled : Option Text) → settled ≡ settled_path j ds.tree.nodes → IsAllowed settled disabled (step_of Course.Removing ds rack in_world j)
  removal_allows run j is course in_world settled set = removal_allowed (was j) (subst (λ (x : State). IsOfRun x) (sym is) run) j refl course in_world settled set

  pub other_allows : (j : Job) (course : Course) → (course ≡ Course.Rebalancing → ⊥) → (course ≡ Course.Removing → ⊥) → (in_world : Bool) (settled : Option Text) → IsAllowed settled disabled (step_of course ds rack in_world j)
  other_allows j course a b in_world settled = other_allowed (was j) j course a b in_world settled

  -- The steps -----------------------------------------------------------------------------

  module _ (ds' : Devices) (rack' : List Driver) where
    abbrev pub mid : Job → State
    mid j = state_of ds' rack' disabled works (Some j) tasks

    moves : (settings : Settings) (j : Job) → was j ≡ s → IsTurn turns.Operate s → (label : Label) (t : State) → IsDoing settings (operation_next (was j) j false) label t → Steps settings s label t
    moves settings j is turn label t h = subst (λ x. Steps settings x label t) is (operate_moves settings (was j) j refl label t (awake_is s j turn (runs j is)) h)

    pub rebalance_moves : (j j' : Job) (infs : List Inf) (budget : ℕ) (step : RebalanceStep) → was j ≡ s → course_of j.kind ≡ Course.Rebalancing → IsTurn turns.Operate s → Rebalances budget ds rack j step ds' rack' j'
        → Steps (settings_of infs budget) s (rebalance_label step) (beside_rebalance step j'.target (mid j'))
    rebalance_moves j j' infs budget step is course turn h =
        let back = is_back (was j) j Course.Rebalancing in
        moves (settings_of infs budget) j is turn _ _ (rebalance_done ds ds' rack rack' disabled works tasks h.1 j j' Course.Rebalancing course back refl infs budget step (h.0 back))

    -- what is printed and what is there then are those of the step
    abbrev Made : ℕ → Result Label AllocError → State → Type 0
    Made budget printed t = IfOk printed (λ label. (infs : List Inf) → Steps (settings_of infs budget) s label t)

    -- Of an operation that removes devices, whose step may have been refused ---------------------

    module _ (j j' : Job) (is : was j ≡ s) (course : Course) (in_world : Bool) (settled : Option Text) (allowed : IsAllowed settled disabled (step_of course ds rack in_world j))
        (moved : Result RemoveStep AllocError) (h : IfOk moved (λ step. Removes course ds rack in_world j step ds' rack' j')) where
      abbrev MovedSo : RemoveStep → Type 0
      MovedSo step = Removes course ds rack in_world j step ds' rack' j'

      pub removes_root : IfOk moved (λ step. IsNoRoot step)
      removes_root = ok_then MovedSo (λ step. IsNoRoot step) (λ step x. no_root settled disabled (step_of course ds rack in_world j) allowed (core_with ds' rack') j' step x.0) moved h

      pub removes_new : IfOk moved (λ step. IsNew step settled disabled)
      removes_new = ok_then MovedSo (λ step. IsNew step settled disabled) (λ step x. is_new settled disabled (step_of course ds rack in_world j) allowed (core_with ds' rack') j' step x.0) moved h

      module _ (budget : ℕ) (printed : Result Label AllocError) (t : State) (l : IsLabelOf moved printed) (e : t ≡ beside_made moved settled (mid j')) where
        abbrev Goes : RemoveStep → Type 0
        Goes step = (infs : List Inf) → Steps (settings_of infs budget) s (label_of step) (beside step settled (mid j'))

        made : IfOk moved Goes → Made budget printed t
        made h = by_case moved printed h l e
          where
            by_case : (moved : Result RemoveStep AllocError) (printed : Result Label AllocError) → IfOk moved Goes → IsLabelOf moved printed → t ≡ beside_made moved settled (mid j') → Made budget printed t
            by_case (Ok step) (Ok label) h l e = λ infs.
                told_by (settings_of infs budget) s label (label_of step) t (beside step settled (mid j')) l e (h infs)
            by_case (Ok step) (Err refused) h l e = absurd l
            by_case (Err error) (Ok label) h l e = absurd l
            by_case (Err error) (Err refused) h l e = tt

        pub removes_move : course_of j.kind ≡ course → in_world ≡ is_back (was j) j course → IsTurn turns.Operate s → Made budget printed t
        removes_move of back turn =
            made
            (ok_then MovedSo Goes
            (λ step x infs. moves (settings_of infs budget) j is turn _ _
            (remove_done ds ds' rack rack' disabled works tasks x.1 j j' course of in_world back settled step (λ m path e b. (allowed.new m path e b).0) x.0 (settings_of infs budget))) moved h)

        -- where it was refused all is as before
        pub stays : OnErr moved (ds' ≡ ds) → OnErr moved (rack' ≡ rack) → OnErr moved (j' ≡ j) → OnErr printed (t ≡ s)
        stays d r k = by_case moved printed d r k l e
          where
            by_case : (moved : Result RemoveStep AllocError) (printed : Result Label AllocError) → OnErr moved (ds' ≡ ds) → OnErr moved (rack' ≡ rack) → OnErr moved (j' ≡ j)
                → IsLabelOf moved printed → t ≡ beside_made moved settled (mid j') → OnErr printed (t ≡ s)
            by_case (Ok step) (Ok label) d r k l e = tt
            by_case (Ok step) (Err refused) d r k l e = absurd l
            by_case (Err error) (Ok label) d r k l e = tt
            by_case (Err error) (Err refused) d r k l e =
                e ∙ ap (λ x. state_of x rack' disabled works (Some j') tasks) d ∙ ap (λ x. state_of ds x disabled works (Some j') tasks) r ∙ ap was k ∙ is

    -- a removal looks nothing up in the world
    pub removal_back : (j j' : Job) (b : Bool) (moved : Result RemoveStep AllocError) → IfOk moved (λ step. Removes Course.Removing ds rack false j step ds' rack' j') → IfOk moved (λ step. Removes Course.Removing ds rack b j step ds' rack' j')
    removal_back j j' b moved h =
        subst (λ (x : Option (Doing JobMove)). IfOk moved (λ step. frames.MovedBy x step (core_with ds' rack') j' × StaysBeside ds ds')) (none_back (core_with ds rack) j ds.handles j.walk (first_node ds.tree.nodes j.todo) b) h
