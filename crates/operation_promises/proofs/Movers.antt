-- A rebalance, a change and a finish stay among their own.
use Rattle.std.proofs.Common.{ℕ, ◌≡◌, ◌≢◌, inl, inr, Bool, true, false, List, [], ◌∷◌, map, reverse, Option, Some, None, refl, sym, ap, ◌∙◌, subst, arith, if◌then◌else◌}
use Rattle.std.proofs.lemmas.Bool.{cases_eq}
use Rattle.std.proofs.lemmas.Bool.Decides.{nat_tests}
use Rattle.std.specs.Option.{option_map}
use Rattle.resource_reqs.specs.Resources.{Reqs}
use Rattle.resource_reqs.specs.Spelling.Answer.{assignment, no_fit, spent}
use Rattle.pnp_labels.specs.declared.event.Event.{Event}
use Rattle.pnp_labels.specs.declared.label.Label.{Label}
use Rattle.pnp_labels.specs.declared.label.OpEnd.{OpEnd}
use Rattle.pnp_labels.specs.declared.label.OpKind.{OpKind}
use Rattle.pnp_labels.specs.declared.states.DevState.TheVariants.{Started, SurpriseRemoved}
use Rattle.pnp_labels.specs.declared.states.Problem.{Problem}
use Rattle.pnp_labels.specs.declared.words.Minor.{Minor}
use Rattle.pnp_model.specs.Cores.{bare, is_node, node_at, serials_of, with_problem, with_state}
use Rattle.pnp_model.specs.Events as ev
use Rattle.pnp_model.specs.Finishes as fi
use Rattle.pnp_model.specs.Frames.{asked, ended, first_node, rest}
use Rattle.pnp_model.specs.Jobs.{Beside, JobMove, each_gets, job_of, stands}
use Rattle.pnp_model.specs.Keyed.{changed_first, those}
use Rattle.pnp_model.specs.Laws.{AllWithin, IsWithin}
use Rattle.pnp_model.specs.Machine as ma
use Rattle.pnp_model.specs.Rebalances as re
use Rattle.pnp_model.specs.Rebalances.{committed, movers, others, plan_of, startable}
use Rattle.pnp_model.specs.Records.{Core, Course, Found, Job, Node, Settings, Stage, State, Step, Walk, course_of}
use Rattle.pnp_model.specs.Runs.{Entry, Goes, Run, printed}
use Rattle.pnp_model.specs.Runs.Entry.{Happens, Did, Declines}
use Rattle.pnp_model.specs.States.{device_born, set_operation, with_core}
use Rattle.pnp_model.specs.Tests.{has, is_started}
use Rattle.pnp_model.specs.Walks.{state_after}
use Rattle.pnp_laws.specs.Effects.{OpEffect, Turn, begun, required}
use Rattle.pnp_laws.specs.Kept.{Ascending}
use Rattle.pnp_laws.proofs.EffectsOf.{effect_goes}
use Rattle.pnp_laws.proofs.EventChanges.{Answered, happens_outside}
use Rattle.pnp_laws.proofs.Finishing.{relist_only}
use Rattle.pnp_laws.proofs.Lists.{has_cases, head_found, head_has, member, rest_within, those_found, those_has, without_has}
use Rattle.pnp_laws.proofs.Lookups.{left_other, node_at-map, node_changed_other, node_from, own_serial, some_same}
use Rattle.pnp_laws.proofs.OpSteps.{has-reverse}
use Rattle.pnp_laws.proofs.RebalanceRuns.{after_core}
use Rattle.pnp_laws.proofs.RebalanceSteps.{startable_has}
use Rattle.pnp_laws.proofs.RunsStand.{Kept, kept_goes, reaches_kept}
use Rattle.pnp_laws.proofs.Sharing.{part_not}
use Rattle.pnp_laws.proofs.Stages.{FinishAct, FinishStep, OperationStep, RebalanceAct, RebalanceStep, asking, ended_by, operation_step, own_step}
use Rattle.pnp_laws.proofs.Truths.{and_both}
use Rattle.pnp_laws.proofs.Turns.{running_good, taken_told}
use Rattle.operation_promises.specs.Movers.{IsOwn, Moves, NamesOwn, OperationsMoveTheirOwnLaw}

-- it goes on
abbrev OnBeside : Beside → Type 0
OnBeside Beside.Over = ⊥
OnBeside Beside.OverStart = ⊥
OnBeside Beside.OverUndo = ⊥
OnBeside _ = Unit {0}

runs_on : (j : Job) (beside : Beside) (c : Core) (s : State) → OnBeside beside → (ma.after_job j beside (with_core c s)).operation ≡ Some j
runs_on j Beside.On c s on = refl
runs_on j (Beside.Left path born) c s on = (relist_only path born (set_operation (Some j) (with_core c s))).operation
runs_on j (Beside.Disabled path) c s on = refl
runs_on j (Beside.Ejected path born) c s on = (relist_only path born (Rattle.pnp_model.specs.States.unplug born (set_operation (Some j) (with_core c s)))).operation
runs_on j (Beside.FailedRestart k) c s on = refl
runs_on j Beside.Over c s on = absurd on
runs_on j Beside.OverStart c s on = absurd on
runs_on j Beside.OverUndo c s on = absurd on

module _ (before : Core) (kind : OpKind) (moves : Moves kind) (n : Node) where
  abbrev Own : ℕ → Type 0
  Own j = IsOwn kind before n j

  abbrev AllOwn : List ℕ → Type 0
  AllOwn ks = (j : ℕ) → has ks j ≡ true → Own j

  -- all others are as they were
  abbrev Others : List Node → Type 0
  Others nodes = (j : ℕ) → (Own j → ⊥) → node_at j nodes ≡ node_at j before.nodes

  -- in a finish who has gone had gone
  abbrev GoneIsOwn : List Node → Type 0
  GoneIsOwn nodes = course_of kind ≡ Course.Finishing → (j : ℕ) (m : Node) → node_at j nodes ≡ Some m → m.state ≡ SurpriseRemoved → Own j

  -- the operation is for its device; who is next and who agreed are its own
  record Work (o : Job) : Type 0 where
    own_kind : o.kind ≡ kind
    own_path : o.path ≡ n.path
    own_target : o.target ≡ n.serial
    todo : AllOwn o.todo
    agreed : AllOwn o.agreed

  record Stays (s : State) : Type 0 where
    operation : Job
    runs : s.operation ≡ Some operation
    work : Work operation
    gone : GoneIsOwn s.core.nodes
    others : Others s.core.nodes

  record Stepped (s : State) (step : Step) : Type 0 where
    names : NamesOwn kind before n s step.label
    others : Others step.state.core.nodes
    on : IsWithin step.label → Stays step.state

  -- Lists of its own ----------------------------------------------------------------------------------------------

  none_own : AllOwn []
  none_own j h = absurd (cc)

  more_own : (k : ℕ) (ks : List ℕ) → Own k → AllOwn ks → AllOwn (k ∷ ks)
  more_own k ks own rest j h = elim (has_cases k j ks h) [ inl e ↦ subst Own e own | inr there ↦ rest j there ]

  rest_own : (ks : List ℕ) → AllOwn ks → AllOwn (rest ks)
  rest_own ks all j h = all j (rest_within j ks h)

  those_own : (test : ℕ → Bool) (ks : List ℕ) → AllOwn ks → AllOwn (those test ks)
  those_own test ks all j h = all j (those_has test ks j h).0

  back_own : (ks : List ℕ) → AllOwn ks → AllOwn (reverse ks)
  back_own ks all j h = all j (sym (has-reverse ks j) ∙ h)

  start_own : (nodes : List Node) (ks : List ℕ) → AllOwn ks → AllOwn (startable nodes ks)
  start_own nodes ks all j h = elim (member ks j) [ inl there ↦ all j there | inr out ↦ absurd (let none = startable_has nodes ks j out in cc) ]

  -- and an operation that goes on with such lists
  module _ (r : Job) (work : Work r) where
    gets : (minor : Minor) (stage : Stage) (ks : List ℕ) (over : Job) → AllOwn ks → Work over → Work (each_gets minor stage r ks over)
    gets minor stage [] over all last = last
    gets minor stage (k ∷ ks) over all last = record { own_kind = work.own_kind; own_path = work.own_path; own_target = work.own_target; todo = all; agreed = work.agreed }

    stops_at : (stage : Stage) → Work (stands r [] stage)
    stops_at stage = record { own_kind = work.own_kind; own_path = work.own_path; own_target = work.own_target; todo = none_own; agreed = work.agreed }

    cancels : (ks : List ℕ) → AllOwn ks → Work (re.cancel_on r ks)
    cancels ks all = gets Minor.CancelStop Stage.Cancelling ks _ all (stops_at (re.cancelled r.wanted))

    asks_on : (ks : List ℕ) → AllOwn ks → Work (re.ask_on r ks)
    asks_on ks all = gets Minor.QueryStop Stage.Asking ks _ all (by_refused (re.has_refused r))
      where
        by_refused : (b : Bool) → Work (if b then re.cancel_on r r.agreed else stands r [] Stage.Searching)
        by_refused true = cancels r.agreed work.agreed
        by_refused false = stops_at Stage.Searching

    stops : (ks : List ℕ) → AllOwn ks → Work (re.stop_on r ks)
    stops ks all = gets Minor.Stop Stage.Stopping ks _ all (stops_at Stage.Committing)

    restarts : (nodes : List Node) (ks : List ℕ) → AllOwn ks → Work (re.restart_on nodes r ks)
    restarts nodes ks all = gets Minor.Start Stage.Restarting (startable nodes ks) _ (start_own nodes ks all) (stops_at Stage.Ending)

  module _ (s : State) (o : Job) (work : Work o) (old : Others s.core.nodes) (gone : GoneIsOwn s.core.nodes) where
    -- the operation goes on by a move
    goes_on : (m : JobMove) → NamesOwn kind before n s m.label → Others m.core.nodes → GoneIsOwn m.core.nodes → Work m.frame → OnBeside m.beside → Stepped s (ma.job_lifted s m)
    goes_on m names others gone_now now on =
        let core = after_core m.frame m.beside m.core s in
        let rest = subst (λ (c : Core). Others c.nodes) (sym core) others in
        record {
          names = names;
          others = rest;
          on = λ within. record { operation = m.frame; runs = runs_on m.frame m.beside m.core s on; work = now; gone = subst (λ (c : Core). GoneIsOwn c.nodes) (sym core) gone_now; others = rest };
        }

    -- it ends
    closed : (m : JobMove) (result : OpEnd) → m.label ≡ Label.End o.kind o.path result → m.core ≡ s.core → Stepped s (ma.job_lifted s m)
    closed m result says core =
        record {
          names = subst (λ (x : Label). NamesOwn kind before n s x) (sym says) (work.own_kind, work.own_path);
          others = subst (λ (c : Core). Others c.nodes) (sym (after_core m.frame m.beside m.core s ∙ core)) old;
          on = λ within. absurd (subst (λ (x : Label). IsWithin x) says within);
        }

    -- a change of nodes that makes nobody gone
    abbrev NoneGone : (Node → Node) → Type 0
    NoneGone f = (x : Node) → (f x).state ≡ SurpriseRemoved → x.state ≡ SurpriseRemoved

    module _ (node : Node) (first : first_node s.core.nodes o.todo ≡ Some node) where
      inside : Own node.serial
      inside = work.todo node.serial (head_has node.serial o.todo (head_found s.core.nodes o.todo node first).0)

      one_of : (m : Node) × (node_at m.serial s.core.nodes ≡ Some m) × (m.path ≡ node.path) × IsOwn kind before n m.serial
      one_of = (node, (head_found s.core.nodes o.todo node first).1, refl, inside)

      other : (j : ℕ) → (Own j → ⊥) → node.serial ≢ j
      other j out e = out (subst Own e inside)

      changed : (f : Node → Node) → ((x : Node) → (f x).serial ≡ x.serial) → Others (changed_first (is_node node.serial) f s.core.nodes)
      changed f keeps j out = node_changed_other node.serial j f s.core.nodes keeps (other j out) ∙ old j out

      changed_gone : (f : Node → Node) → ((x : Node) → (f x).serial ≡ x.serial) → GoneIsOwn (changed_first (is_node node.serial) f s.core.nodes)
      changed_gone f keeps is j m at state =
          elim (node_from node.serial j f s.core.nodes m keeps at) [
            | inl (e, more) ↦ subst Own e inside
            | inr (d, there) ↦ gone is j m there state
          ]

    -- A rebalance or a change -----------------------------------------------------------------------------------------

    module _ (rebalancing : course_of kind ≡ Course.Rebalancing) where
      target_own : Own n.serial
      target_own = by_kind kind moves rebalancing
        where
          by_kind : (own : OpKind) → Moves own → course_of own ≡ Course.Rebalancing → IsOwn own before n n.serial
          by_kind OpKind.Rebalance m is = inl refl
          by_kind OpKind.Change m is = inl refl
          by_kind OpKind.Finish m is = absurd (cc)
          by_kind OpKind.Disable m is = absurd m
          by_kind OpKind.Eject m is = absurd m
          by_kind OpKind.Surprise m is = absurd m

      -- no finish
      no_gone : (nodes : List Node) → GoneIsOwn nodes
      no_gone nodes is j m at state = absurd (cc)

      on : (m : JobMove) → NamesOwn kind before n s m.label → Others m.core.nodes → Work m.frame → OnBeside m.beside → Stepped s (ma.job_lifted s m)
      on m names others now beside = goes_on m names others (no_gone m.core.nodes) now beside

      found : (f : Found) → Stepped s (ma.job_lifted s (re.searched s.core o f))
      found (assignment plan) = on (re.searched s.core o (assignment plan)) work.own_path old (stops (record o { found = assignment plan }) again (reverse o.agreed) (back_own o.agreed work.agreed)) tt
        where
          again : Work (record o { found = assignment plan })
          again = record { own_kind = work.own_kind; own_path = work.own_path; own_target = work.own_target; todo = work.todo; agreed = work.agreed }
      found no_fit = on (re.searched s.core o no_fit) work.own_path old (cancels (record o { found = no_fit }) (record { own_kind = work.own_kind; own_path = work.own_path; own_target = work.own_target; todo = work.todo; agreed = work.agreed }) o.agreed work.agreed) tt
      found spent = on (re.searched s.core o spent) work.own_path old (cancels (record o { found = spent }) (record { own_kind = work.own_kind; own_path = work.own_path; own_target = work.own_target; todo = work.todo; agreed = work.agreed }) o.agreed work.agreed) tt

      -- the places change of its own alone
      commits : Others (map (committed o.wanted o.target (movers o) (plan_of o.found)) s.core.nodes)
      commits j out = node_at-map j (committed o.wanted o.target (movers o) (plan_of o.found)) s.core.nodes (λ x. refl) ∙ by_node (node_at j s.core.nodes) refl ∙ old j out
        where
          not_target : o.target ≢ j
          not_target e = out (subst Own (sym work.own_target ∙ e) target_own)

          not_mover : has (movers o) j ≡ false
          not_mover =
              elim (member o.agreed j) [
                | inl there ↦ absurd (out (work.agreed j there))
                | inr apart ↦ (let d : o.target ≢ j = not_target in let no_other : has (others o) j ≡ false = without_has o.target j o.agreed not_target ∙ apart in grind (arith, nat_tests))
              ]

          same_reqs : (m : Node) → m.serial ≡ j → (wanted : Option Reqs) → re.reqs_after wanted o.target m ≡ m.reqs
          same_reqs m own None = refl
          same_reqs m own (Some wanted) = let d : m.serial ≢ o.target = λ e. not_target (sym e ∙ own) in grind (arith, nat_tests)

          same_node : (m : Node) → m.serial ≡ j → committed o.wanted o.target (movers o) (plan_of o.found) m ≡ m
          same_node m own =
              ap (λ (x : Reqs). record m { reqs = x; holds = re.part_for m.serial (movers o) (plan_of o.found) m.holds }) (same_reqs m own o.wanted)
              ∙ ap (λ x. record m { holds = x }) (part_not m.serial (movers o) (plan_of o.found) m.holds (subst (λ (i : ℕ). has (movers o) i ≡ false) (sym own) not_mover))

          by_node : (x : Option Node) → node_at j s.core.nodes ≡ x → option_map (committed o.wanted o.target (movers o) (plan_of o.found)) x ≡ x
          by_node None e = refl
          by_node (Some m) e = ap Some (same_node m (own_serial j m s.core.nodes e))

      act : (stage : Stage) (m : JobMove) → RebalanceAct s.core o stage m → Stepped s (ma.job_lifted s m)
      act _ _ (RebalanceAct.searches f budget answer) = found f
      act _ _ RebalanceAct.sticks =
          on (re.stuck s.core o) (inr work.own_path) (λ j out. node_changed_other o.target j (with_problem (Some (re.trouble_of o.found))) s.core.nodes (λ x. refl) (λ e. out (subst Own (sym work.own_target ∙ e) target_own)) ∙ old j out) (stops_at o work Stage.Ending) tt
      act _ _ RebalanceAct.commits = on (re.commit_step s.core o) tt commits (restarts o work s.core.nodes o.agreed work.agreed) tt
      act _ _ (RebalanceAct.failed node first) =
          on (re.failed s.core o node) (inl (one_of node first)) (changed node first (with_problem (Some Problem.FailedStart)) (λ x. refl)) (restarts o work s.core.nodes (rest o.todo) (rest_own o.todo work.todo)) tt
      act _ _ RebalanceAct.closes = closed (re.close s.core o) (re.result o.found (re.has_refused o)) refl refl

      rebalances : (stage : Stage) (m : JobMove) → RebalanceStep s.core o stage m → Stepped s (ma.job_lifted s m)
      rebalances _ _ (RebalanceStep.agrees node w e good) =
          let r : Job = record o { agreed = node.serial ∷ o.agreed } in
          let more : Work r = record { own_kind = work.own_kind; own_path = work.own_path; own_target = work.own_target; todo = work.todo; agreed = more_own node.serial o.agreed (inside node e.first) work.agreed } in
          on (ended_by s.core node Minor.QueryStop false (re.answers o node false)) (one_of node e.first) (changed node e.first (with_state (state_after Minor.QueryStop false node.state)) (λ x. refl)) (asks_on r more (rest o.todo) (rest_own o.todo work.todo)) tt
      rebalances _ _ (RebalanceStep.refuses node w e bad) =
          on (ended_by s.core node Minor.QueryStop true (re.answers o node true)) (one_of node e.first) (changed node e.first (with_state (state_after Minor.QueryStop true node.state)) (λ x. refl))
          (record { own_kind = work.own_kind; own_path = work.own_path; own_target = work.own_target; todo = work.todo; agreed = work.agreed }) tt
      rebalances _ _ (RebalanceStep.takes_back node w e) =
          on (ended_by s.core node Minor.CancelStop false (re.ask_on o (those (re.is_not_above s.core.nodes node.serial) (rest o.todo)))) (one_of node e.first) (changed node e.first (with_state (state_after Minor.CancelStop false node.state)) (λ x. refl))
          (asks_on o work (those (re.is_not_above s.core.nodes node.serial) (rest o.todo)) (those_own (re.is_not_above s.core.nodes node.serial) (rest o.todo) (rest_own o.todo work.todo))) tt
      rebalances _ _ (RebalanceStep.cancels node w e) =
          on (ended_by s.core node Minor.CancelStop false (re.cancel_on o (rest o.todo))) (one_of node e.first) (changed node e.first (with_state (state_after Minor.CancelStop false node.state)) (λ x. refl)) (cancels o work (rest o.todo) (rest_own o.todo work.todo)) tt
      rebalances _ _ (RebalanceStep.stops node w e) =
          on (ended_by s.core node Minor.Stop false (re.stop_on o (rest o.todo))) (one_of node e.first) (changed node e.first (with_state (state_after Minor.Stop false node.state)) (λ x. refl)) (stops o work (rest o.todo) (rest_own o.todo work.todo)) tt
      rebalances _ _ (RebalanceStep.restarts node w e good) =
          on (ended_by s.core node Minor.Start false (re.after_restart s.core o node false)) (one_of node e.first) (changed node e.first (with_state (state_after Minor.Start false node.state)) (λ x. refl)) (restarts o work (ended s.core node Minor.Start false).nodes (rest o.todo) (rest_own o.todo work.todo)) tt
      rebalances _ _ (RebalanceStep.fails node w e bad) =
          on (ended_by s.core node Minor.Start true (re.after_restart s.core o node true)) (one_of node e.first) (changed node e.first (with_state (state_after Minor.Start true node.state)) (λ x. refl))
          (record { own_kind = work.own_kind; own_path = work.own_path; own_target = work.own_target; todo = work.todo; agreed = work.agreed }) tt
      rebalances _ _ (RebalanceStep.acts stage m x) = act stage m x

    -- A finish -----------------------------------------------------------------------------------------------------------

    settles : (leaving : Bool) (problem : Option Problem) → Work (fi.settle_on o leaving problem)
    settles true problem = record { own_kind = work.own_kind; own_path = work.own_path; own_target = work.own_target; todo = work.todo; agreed = work.agreed }
    settles false None = record { own_kind = work.own_kind; own_path = work.own_path; own_target = work.own_target; todo = work.todo; agreed = work.agreed }
    settles false (Some problem) = stops_at o work Stage.Next

    finishes : (back : Bool) (stage : Stage) (m : JobMove) → FinishStep s.core o back s.handles stage m → Stepped s (ma.job_lifted s m)
    finishes back _ _ (FinishStep.removes node w e) =
        goes_on (ended_by s.core node Minor.Remove false (fi.settle_on o (fi.is_leaving s.core.nodes node back) node.problem)) (one_of node e.first) (changed node e.first bare (λ x. refl)) (changed_gone node e.first bare (λ x. refl)) (settles (fi.is_leaving s.core.nodes node back) node.problem) tt
    finishes back _ _ (FinishStep.acts _ _ (FinishAct.leaves node first)) =
        goes_on (fi.leave s.core o node) (one_of node first) (λ j out. left_other node.serial j s.core.nodes (other node first j out) ∙ old j out)
        (λ is j m at state.
        elim (cases_eq node.serial j) [
          | inl e ↦ subst Own e (inside node first)
          | inr d ↦ gone is j m (sym (left_other node.serial j s.core.nodes d) ∙ at) state
        ]) (stops_at o work Stage.Next) tt
    finishes back _ _ (FinishStep.acts _ _ (FinishAct.holds node first)) =
        goes_on (fi.hold s.core o node) (inl (one_of node first)) (changed node first (with_problem (Some Problem.Held)) (λ x. refl)) (changed_gone node first (with_problem (Some Problem.Held)) (λ x. refl)) (stops_at o work Stage.Next) tt
    finishes back _ _ (FinishStep.acts _ _ (FinishAct.closes none)) = closed (fi.close s.core o) OpEnd.Done refl refl

    -- the next driver is asked
    asks : (node : Node) (w : Walk) → first_node s.core.nodes o.todo ≡ Some node → Stepped s (asking s o node w)
    asks node w first =
        record {
          names = one_of node first;
          others = old;
          on = λ go. record { operation = record o { walk = Some (asked s.core node w).walk }; runs = refl; work = record { own_kind = work.own_kind; own_path = work.own_path; own_target = work.own_target; todo = work.todo; agreed = work.agreed }; gone = gone; others = old };
        }

    op_step : (step : Step) → OperationStep s o step → Stepped s step
    op_step _ (OperationStep.asks node w a) = asks node w a.first
    op_step _ (OperationStep.rebalances stage m course is x) = rebalances (ap course_of (sym work.own_kind) ∙ course) stage m x
    op_step _ (OperationStep.finishes stage m course is x) = finishes (ma.is_back s o Course.Finishing) stage m x
    op_step _ (OperationStep.removes stage m course is x) = absurd (by_kind kind moves (ap course_of (sym work.own_kind) ∙ course))
      where
        by_kind : (own : OpKind) → Moves own → course_of own ≡ Course.Removing → ⊥
        by_kind OpKind.Rebalance m is = cc
        by_kind OpKind.Change m is = cc
        by_kind OpKind.Finish m is = cc
        by_kind _ m is = absurd m
    op_step _ (OperationStep.surprises stage m course is x) = absurd (by_kind kind moves (ap course_of (sym work.own_kind) ∙ course))
      where
        by_kind : (own : OpKind) → Moves own → course_of own ≡ Course.Surprising → ⊥
        by_kind OpKind.Rebalance m is = cc
        by_kind OpKind.Change m is = cc
        by_kind OpKind.Finish m is = cc
        by_kind _ m is = absurd m

  -- the device that is taken had gone
  turned : (s : State) (kept : Kept s) (o p : Job) → Turn s o p → Work o → GoneIsOwn s.core.nodes → Work p
  turned s kept o _ (Turn.same _) work gone = work
  turned s kept _ _ (Turn.queries o node course is none first asked) work gone = record { own_kind = work.own_kind; own_path = work.own_path; own_target = work.own_target; todo = work.todo; agreed = work.agreed }
  turned s kept _ _ (Turn.removes o node d ds course is none first goes stack) work gone = record { own_kind = work.own_kind; own_path = work.own_path; own_target = work.own_target; todo = work.todo; agreed = work.agreed }
  turned s kept _ _ (Turn.settles o node course is none first goes stack) work gone = record { own_kind = work.own_kind; own_path = work.own_path; own_target = work.own_target; todo = work.todo; agreed = work.agreed }
  turned s kept _ _ (Turn.finishes f k node course is none ready at) work gone =
      let own = own_serial k node s.core.nodes at in
      let told = taken_told s kept.good.stacks kept.good.serials k node ready at in
      record {
        own_kind = work.own_kind;
        own_path = work.own_path;
        own_target = work.own_target;
        todo = more_own node.serial [] (gone (ap course_of (sym work.own_kind) ∙ course) node.serial node (subst (λ (i : ℕ). node_at i s.core.nodes ≡ Some node) (sym own) at) told) none_own;
        agreed = work.agreed;
      }

  stepped : (settings : Settings) (s : State) (step : Step) → Kept s → Stays s → ma.IsStep settings (ma.next settings s) step → Stepped s step
  stepped settings s step kept stays is =
      let taken = operation_step settings s stays.operation step stays.runs is in
      let fits = (running_good s taken.now (record { before = stays.operation; runs = stays.runs; turn = taken.turn }) kept.good).fits in
      op_step s taken.now (turned s kept stays.operation taken.now taken.turn stays.work stays.gone) stays.others stays.gone step (own_step s taken.now step fits taken.is)

  -- an event answers the operation's request at most
  answered : (s t : State) → Stays s → t.core.nodes ≡ s.core.nodes → Answered s.operation t.operation → Stays t
  answered s t stays nodes (inl e) =
      record { operation = stays.operation; runs = e ∙ stays.runs; work = stays.work; gone = subst (λ (x : List Node). GoneIsOwn x) (sym nodes) stays.gone; others = subst (λ (x : List Node). Others x) (sym nodes) stays.others }
  answered s t stays nodes (inr (ok, p, e, q)) =
      let same : p ≡ stays.operation = some_same s.operation p stays.operation e stays.runs in
      let work : Work p = subst Work (sym same) stays.work in
      record {
        operation = ev.completed (ev.answer_of ok) p;
        runs = q;
        work = record { own_kind = work.own_kind; own_path = work.own_path; own_target = work.own_target; todo = work.todo; agreed = work.agreed };
        gone = subst (λ (x : List Node). GoneIsOwn x) (sym nodes) stays.gone;
        others = subst (λ (x : List Node). Others x) (sym nodes) stays.others;
      }

  happens : (s : State) (event : Event) → Stays s → Stays (ev.happens s event).state
  happens s event stays = let out = happens_outside s event in answered s (ev.happens s event).state stays out.nodes out.operation

  stays_goes : (settings : Settings) (s : State) (entry : Entry) (t : State) → Kept s → Stays s → IsWithin (printed entry) → Goes settings s entry t → Stays t
  stays_goes settings s (Happens event label) t kept stays within goes = subst (λ (x : Step). Stays x.state) goes.1 (happens s event stays)
  stays_goes settings s (Did label) t kept stays within goes = (stepped settings s (record { label = label; state = t }) kept stays goes).on within
  stays_goes settings s (Declines label) t kept stays within goes = absurd (let due = ap (λ (o : Option Job). ma.due_with s o) (sym stays.runs) ∙ goes.is_due in cc)

  stays_run : (settings : Settings) (s : State) (entries : List Entry) (t : State) → Kept s → Stays s → AllWithin entries → Run settings s entries t → Kept t × Stays t
  stays_run settings s [] t kept stays within run = subst (λ (x : State). Kept x × Stays x) (sym run) (kept, stays)
  stays_run settings s (entry ∷ more) t kept stays within (mid, goes, run) =
      stays_run settings mid more t (kept_goes settings s entry mid kept goes) (stays_goes settings s entry mid kept stays within.0 goes) within.1 run

-- The begin ------------------------------------------------------------------------------------------------------------------

-- who is asked was Started
asked_started : (x : Node) → re.is_asked x ≡ true → x.state ≡ Started
asked_started x h = Rattle.pnp_laws.proofs.OpSteps.is_Started x.state (and_both (is_started x.state) _ h).0

first_own : (s : State) (kind : OpKind) (moves : Moves kind) (n : Node) → Ascending 0 s.core.nodes → Work s.core kind moves n (begun s kind n)
first_own s OpKind.Rebalance moves n order =
    asks_on s.core OpKind.Rebalance moves n (record (job_of OpKind.Rebalance n) { wanted = None })
    (record { own_kind = refl; own_path = refl; own_target = refl; todo = λ j h. absurd (cc); agreed = λ j h. absurd (cc) }) (reverse (serials_of (those re.is_asked s.core.nodes)))
    (λ j h. let from = those_found 0 re.is_asked s.core.nodes j order (sym (has-reverse (serials_of (those re.is_asked s.core.nodes)) j) ∙ h) in inr (from.0, from.1, asked_started from.0 from.2))
first_own s OpKind.Change moves n order =
    asks_on s.core OpKind.Change moves n (record (job_of OpKind.Change n) { wanted = Some (required s n (device_born n.born s.world)) })
    (record { own_kind = refl; own_path = refl; own_target = refl; todo = λ j h. absurd (cc); agreed = λ j h. absurd (cc) }) (reverse (serials_of (those re.is_asked s.core.nodes)))
    (λ j h. let from = those_found 0 re.is_asked s.core.nodes j order (sym (has-reverse (serials_of (those re.is_asked s.core.nodes)) j) ∙ h) in inr (from.0, from.1, asked_started from.0 from.2))
first_own s OpKind.Finish moves n order = record { own_kind = refl; own_path = refl; own_target = refl; todo = λ j h. absurd (cc); agreed = λ j h. absurd (cc) }
first_own s OpKind.Disable moves n order = absurd moves
first_own s OpKind.Eject moves n order = absurd moves
first_own s OpKind.Surprise moves n order = absurd moves

gone_own : (c : Core) (kind : OpKind) (moves : Moves kind) (n : Node) → GoneIsOwn c kind moves n c.nodes
gone_own c kind moves n is j m at state = by_kind kind moves is
  where
    by_kind : (own : OpKind) → Moves own → course_of own ≡ Course.Finishing → IsOwn own c n j
    by_kind OpKind.Finish moves is = (m, at, state)
    by_kind OpKind.Rebalance moves is = absurd (cc)
    by_kind OpKind.Change moves is = absurd (cc)
    by_kind OpKind.Disable moves is = absurd moves
    by_kind OpKind.Eject moves is = absurd moves
    by_kind OpKind.Surprise moves is = absurd moves

-- what begins is for the device of the path
begins_stays : (settings : Settings) (s : State) (kept : Kept s) (kind : OpKind) (moves : Moves kind) (n : Node) (t : State) → node_at n.serial s.core.nodes ≡ Some n → OpEffect s (Label.Begin kind n.path) t → Stays s.core kind moves n t
begins_stays settings s kept kind moves n t at (OpEffect.begins own node none alone there for is) =
    let label = ap (λ (x : Step). x.label) is in
    let kinds : own ≡ kind = (let e : Label.Begin kind n.path ≡ Label.Begin own node.path = label in cc) in
    let paths : node.path ≡ n.path = (let e : Label.Begin kind n.path ≡ Label.Begin own node.path = label in cc) in
    let same : node ≡ n = some_same (node_at n.serial s.core.nodes) node n (subst (λ (k : ℕ). node_at k s.core.nodes ≡ Some node) (kept.stands.tree.paths node.serial n.serial node n there at paths) there) at in
    let op : t.operation ≡ Some (begun s own node) = ap (λ (x : Step). x.state.operation) is in
    let core : t.core ≡ s.core = ap (λ (x : Step). x.state.core) is in
    record {
      operation = begun s kind n;
      runs = op ∙ ap (λ (x : OpKind). Some (begun s x node)) kinds ∙ ap (λ (x : Node). Some (begun s kind x)) same;
      work = first_own s kind moves n kept.good.serials;
      gone = subst (λ (c : Core). GoneIsOwn s.core kind moves n c.nodes) (sym core) (gone_own s.core kind moves n);
      others = λ j out. ap (λ (c : Core). node_at j c.nodes) core;
    }
begins_stays settings s kept kind moves n t at (OpEffect.idles none now (inl beside)) = absurd beside
begins_stays settings s kept kind moves n t at (OpEffect.idles none now (inr owes)) = absurd (let e = owes.prints in cc)
begins_stays settings s kept kind moves n t at (OpEffect.goes o p runs now work (inl beside)) = absurd beside
begins_stays settings s kept kind moves n t at (OpEffect.goes o p runs now work (inr conflicts)) = absurd (let e = conflicts.2 in cc)
begins_stays settings s kept kind moves n t at (OpEffect.ends o result runs now says by closes) = absurd (cc)

pub operations_move_their_own : OperationsMoveTheirOwnLaw
operations_move_their_own settings rack earlier entries before begun_state s t kind n label run moves at begins more within goes =
    let kept = reaches_kept settings rack earlier before run in
    let first = begins_stays settings before kept kind moves n begun_state at (effect_goes settings before (Did (Label.Begin kind n.path)) begun_state begins).operation in
    let (kept_now, stays) = stays_run before.core kind moves n settings begun_state entries s (kept_goes settings before (Did (Label.Begin kind n.path)) begun_state kept begins) first within more in
    let step = stepped before.core kind moves n settings s (record { label = label; state = t }) kept_now stays goes in
    (step.names, step.others)
