-- In a rebalance or a change nobody is left without a problem or without a start.
use Rattle.std.proofs.Common.{ℕ, ◌≡◌, ◌≢◌, ◌⊎◌, inl, inr, Bool, true, false, List, [], ◌∷◌, map, reverse, Option, Some, None, refl, sym, ap, subst, ◌∙◌, arith, if◌then◌else◌}
use Rattle.std.proofs.lemmas.Bool.{cases_eq}
use Rattle.std.proofs.lemmas.Bool.Decides.{nat_tests}
use Rattle.std.specs.List.{list_any}
use Rattle.std.specs.Option.{is_some}
use Rattle.resource_reqs.specs.Resources.{Reqs, Res, Whole}
use Rattle.resource_reqs.specs.Spelling.Answer.{assignment, no_fit, spent}
use Rattle.pnp_labels.specs.declared.states.DevState.{DevState}
use Rattle.pnp_labels.specs.declared.states.DevState.TheVariants.{NoStack, NotStarted, Started, StopPending, Stopped, RemovePending, SurpriseRemoved}
use Rattle.pnp_labels.specs.declared.states.Problem.{Problem}
use Rattle.pnp_labels.specs.declared.words.Minor.{Minor}
use Rattle.pnp_model.specs.Cores.{is_node, node_at, with_problem, with_state}
use Rattle.pnp_model.specs.Frames.{ended, first_node, rest}
use Rattle.pnp_model.specs.Jobs.{Beside, JobMove, each_gets, stands}
use Rattle.pnp_model.specs.Keyed.{changed_first, those}
use Rattle.pnp_model.specs.Machine as ma
use Rattle.pnp_model.specs.Rebalances as re
use Rattle.pnp_model.specs.Rebalances.{committed, movers, others, part_for, plan_of, startable}
use Rattle.pnp_model.specs.Records.{Activity, Course, Found, Job, Node, Phase, Stage, State, course_of}
use Rattle.pnp_model.specs.States.{activity_at}
use Rattle.pnp_model.specs.Tests.{has}
use Rattle.pnp_model.specs.Trees.{stands_up}
use Rattle.pnp_model.specs.Walks.{walk_of}
use Rattle.pnp_laws.specs.Holdings.{has_plan}
use Rattle.pnp_laws.specs.Kept.{RebalanceAsks, RebalanceKeeps, TargetFits, rebalance_state}
use Rattle.pnp_laws.specs.Plans.{StagePlan}
use Rattle.pnp_laws.proofs.EffectsOfOperations.{re_ask_on, re_cancel_on, re_restart, re_stop_on}
use Rattle.pnp_laws.proofs.Lists.{HeadIs, head_found, head_has, rest_not, rest_within, without_has}
use Rattle.pnp_laws.proofs.Lookups.{entered_other, entered_same, map_from, own_serial, some_same}
use Rattle.pnp_laws.proofs.OpSteps.{change_up}
use Rattle.pnp_laws.proofs.RebalanceSteps.{head_pending, head_started, head_stopped, head_stopping, startable_has}
use Rattle.pnp_laws.proofs.Sharing.{part_not}
use Rattle.pnp_laws.proofs.Stages.{RebalanceAct, RebalanceStep, ended_by, held}
use Rattle.pnp_promises.proofs.Cares.{FineOf, Fine, GivesUp, GivesUpIn, IsTarget, IsTargetIn, OpenIn, Restarts, RestartsIn, Seeks, SettlesIn, Unstarted, fine_as, fine_back, fine_up, is_risen, makes_room, onward}
use Rattle.pnp_promises.proofs.CaresOperations.{FineJob, Keeps, SameGoal, gives_target, goal_of, goes_on, keeps_by, one, restarts_in, stays, target_on}
use Rattle.pnp_promises.proofs.CaresIdle.{ask_open, ask_restarts, cancel_open, cancel_restarts, open_by}

module _ (s : State) (order : Rattle.pnp_laws.specs.Kept.Ascending 0 s.core.nodes) (alone : s.activities ≡ []) where
  module _ (o : Job) (old : FineJob s order alone o s.core.nodes) (course : course_of o.kind ≡ Course.Rebalancing) (keeps : RebalanceKeeps o o.stage s.core.nodes) (plan : StagePlan o o.stage s.core.reserved s.core.nodes) where
    -- what all stages but the last have in common
    on : (p : Job) (stage : Stage) → o.stage ≡ stage → (stage ≡ Stage.Ending → ⊥) → ((k : ℕ) → SettlesIn stage o.todo k → ⊥) → SameGoal o p
        → ((k : ℕ) → OpenIn Course.Rebalancing o.wanted o.target stage o.found k → OpenIn Course.Rebalancing p.wanted p.target p.stage p.found k)
        → ((k : ℕ) (n : Node) → node_at k s.core.nodes ≡ Some n → n.state ≡ Stopped → RestartsIn Course.Rebalancing p.stage p.todo p.agreed k → RestartsIn Course.Rebalancing stage o.todo o.agreed k) → Keeps s order alone o p
    on p stage at lasts settles goal opens restarts k n there =
        keeps_by s order alone o p k n.state (target_on o p k goal) (λ h. absurd (lasts (sym at ∙ (gives_target o k h).0)))
        (λ e h. open_by p k (opens k (subst (λ (x : Stage). OpenIn Course.Rebalancing o.wanted o.target x o.found k) at (subst (λ (c : Course). OpenIn c o.wanted o.target o.stage o.found k) course h)))) (λ h. absurd (settles k (subst (λ (x : Stage). SettlesIn x o.todo k) at h)))
        (λ e. restarts_in (Restarts (Some o) k) p k (λ h.
        subst (λ (c : Course). RestartsIn c o.stage o.todo o.agreed k) (sym course) (subst (λ (x : Stage). RestartsIn Course.Rebalancing x o.todo o.agreed k) (sym at) (restarts k n there e h))))

    module _ (node : Node) (first : first_node s.core.nodes o.todo ≡ Some node) where
      head : HeadIs node.serial o.todo
      head = (head_found s.core.nodes o.todo node first).0

      there : node_at node.serial s.core.nodes ≡ Some node
      there = (head_found s.core.nodes o.todo node first).1

      in_todo : has o.todo node.serial ≡ true
      in_todo = head_has node.serial o.todo head

      is_own : (n : Node) → node_at node.serial s.core.nodes ≡ Some n → node ≡ n
      is_own n at = some_same (node_at node.serial s.core.nodes) node n there at

      each : (stage : Stage) → o.stage ≡ stage → rebalance_state o stage node.serial node.state ≡ true
      each stage at = subst (λ (x : Stage). rebalance_state o x node.serial node.state ≡ true) at (keeps.each node.serial node there)

      up_clean : (x : DevState) → node.state ≡ x → (FineOf s.tasks None (Some o) node.serial node x → node.problem ≡ None) → node.problem ≡ None
      up_clean x e clean = clean (fine_as s.tasks None (Some o) node.serial node node.state x e (old node.serial node there))

      -- it is to be started again
      again : node.state ≡ Stopped → o.stage ≡ Stage.Restarting → node.problem ≡ None
      again state at =
          up_clean Stopped state
          (λ h. h (subst (λ (c : Course). RestartsIn c o.stage o.todo o.agreed node.serial) (sym course) (subst (λ (x : Stage). RestartsIn Course.Rebalancing x o.todo o.agreed node.serial) (sym at) in_todo)))

      -- its request ends
      walks : (p : Job) (y : DevState) → is_risen y ≡ true → node.problem ≡ None → Keeps s order alone o p → FineJob s order alone p (changed_first (is_node node.serial) (with_state y) s.core.nodes)
      walks p y risen clean on =
          one s order alone o p node.serial (with_state y) (λ x. refl) (λ k n d at. on k n at)
          (λ n at. subst (λ (x : Node). FineOf s.tasks None (Some p) node.serial (with_state y x) y) (is_own n at) (fine_up s.tasks None (Some p) node.serial (with_state y node) y risen clean)) old

    found_fine : (found : Found) → o.stage ≡ Stage.Searching → Fine (ma.job_lifted s (re.searched s.core o found)).state
    found_fine (assignment plan) at =
        let p = re.stop_on (record o { found = assignment plan }) (reverse o.agreed) in
        goes_on s order alone (re.searched s.core o (assignment plan)) tt
        (stays s order alone o p (on p Stage.Searching at (λ e. cc) (λ k h. h) (let same = re_stop_on (record o { found = assignment plan }) (reverse o.agreed) in record { kind = same.work.kind; wanted = same.work.wanted; target = same.target }) (λ k h. stop_open k (reverse o.agreed)) (λ k n there stopped h. absurd (none k n there stopped (agreed k h)))) old)
      where
        agreed : (k : ℕ) → RestartsIn Course.Rebalancing (re.stop_on (record o { found = assignment plan }) (reverse o.agreed)).stage (re.stop_on (record o { found = assignment plan }) (reverse o.agreed)).todo (re.stop_on (record o { found = assignment plan }) (reverse o.agreed)).agreed k → has o.agreed k ≡ true
        agreed k h = by_list (reverse o.agreed) h
          where
            by_list : (ks : List ℕ) → RestartsIn Course.Rebalancing (re.stop_on (record o { found = assignment plan }) ks).stage (re.stop_on (record o { found = assignment plan }) ks).todo (re.stop_on (record o { found = assignment plan }) ks).agreed k → has o.agreed k ≡ true
            by_list [] h = h
            by_list (j ∷ js) h = h

        stop_open : (k : ℕ) (ks : List ℕ) → OpenIn Course.Rebalancing (re.stop_on (record o { found = assignment plan }) ks).wanted (re.stop_on (record o { found = assignment plan }) ks).target (re.stop_on (record o { found = assignment plan }) ks).stage (re.stop_on (record o { found = assignment plan }) ks).found k
        stop_open k [] = tt
        stop_open k (j ∷ js) = tt

        none : (k : ℕ) (n : Node) → node_at k s.core.nodes ≡ Some n → n.state ≡ Stopped → has o.agreed k ≡ true → ⊥
        none k n there stopped h =
            let state = head_pending o.agreed k n.state h (subst (λ (x : Stage). rebalance_state o x k n.state ≡ true) at (keeps.each k n there)) in
            cc
    found_fine no_fit at =
        let p = re.cancel_on (record o { found = no_fit }) o.agreed in
        goes_on s order alone (re.searched s.core o no_fit) tt
        (stays s order alone o p (on p Stage.Searching at (λ e. cc) (λ k h. h) (let same = re_cancel_on (record o { found = no_fit }) o.agreed in record { kind = same.work.kind; wanted = same.work.wanted; target = same.target }) (λ k h. cancel_open (record o { found = no_fit }) k o.agreed) (λ k n there stopped h. absurd (cancel_restarts (record o { found = no_fit }) k o.agreed h))) old)
    found_fine spent at =
        let p = re.cancel_on (record o { found = spent }) o.agreed in
        goes_on s order alone (re.searched s.core o spent) tt
        (stays s order alone o p (on p Stage.Searching at (λ e. cc) (λ k h. h) (let same = re_cancel_on (record o { found = spent }) o.agreed in record { kind = same.work.kind; wanted = same.work.wanted; target = same.target }) (λ k h. cancel_open (record o { found = spent }) k o.agreed) (λ k n there stopped h. absurd (cancel_restarts (record o { found = spent }) k o.agreed h))) old)

    -- who is started again was to be
    restart_has : (nodes : List Node) (todo : List ℕ) (k : ℕ) → RestartsIn Course.Rebalancing (re.restart_on nodes o todo).stage (re.restart_on nodes o todo).todo (re.restart_on nodes o todo).agreed k → has (startable nodes todo) k ≡ true
    restart_has nodes todo k h = by_list (startable nodes todo) h
      where
        by_list : (ks : List ℕ) → RestartsIn Course.Rebalancing (each_gets Minor.Start Stage.Restarting o ks (stands o [] Stage.Ending)).stage (each_gets Minor.Start Stage.Restarting o ks (stands o [] Stage.Ending)).todo (each_gets Minor.Start Stage.Restarting o ks (stands o [] Stage.Ending)).agreed k
            → has ks k ≡ true
        by_list [] h = absurd h
        by_list (j ∷ js) h = h

    restart_in : (nodes : List Node) (todo : List ℕ) (k : ℕ) → RestartsIn Course.Rebalancing (re.restart_on nodes o todo).stage (re.restart_on nodes o todo).todo (re.restart_on nodes o todo).agreed k → has todo k ≡ true
    restart_in nodes todo k h =
        elim (Rattle.pnp_laws.proofs.Lists.member todo k) [
          | inl there ↦ there
          | inr out ↦ absurd (let no_more = startable_has nodes todo k out in let some = restart_has nodes todo k h in cc)
        ]

    -- and there is a plan
    restart_open : (nodes : List Node) (todo : List ℕ) (k : ℕ) → (o.wanted ≡ None → o.target ≡ k → has_plan o.found ≡ true) → OpenIn Course.Rebalancing (re.restart_on nodes o todo).wanted (re.restart_on nodes o todo).target (re.restart_on nodes o todo).stage (re.restart_on nodes o todo).found k
    restart_open nodes todo k h = by_list (startable nodes todo)
      where
        by_list : (ks : List ℕ) → OpenIn Course.Rebalancing (each_gets Minor.Start Stage.Restarting o ks (stands o [] Stage.Ending)).wanted (each_gets Minor.Start Stage.Restarting o ks (stands o [] Stage.Ending)).target (each_gets Minor.Start Stage.Restarting o ks (stands o [] Stage.Ending)).stage
            (each_gets Minor.Start Stage.Restarting o ks (stands o [] Stage.Ending)).found k
        by_list [] = h
        by_list (j ∷ js) = h

    restart_goal : (nodes : List Node) (todo : List ℕ) → SameGoal o (re.restart_on nodes o todo)
    restart_goal nodes todo = goal_of o (re.restart_on nodes o todo) (re_restart o (startable nodes todo))

    -- nothing is found: the device has its problem
    sticks_fine : o.stage ≡ Stage.Stuck → Fine (ma.job_lifted s (re.stuck s.core o)).state
    sticks_fine at =
        goes_on s order alone (re.stuck s.core o) tt
        (one s order alone o p o.target (with_problem (Some (re.trouble_of o.found))) (λ x. refl) (λ k n d there. keeps_by s order alone o p k n.state (λ h. h) (λ h. absurd (stuck_open (sym at ∙ (gives_target o k h).0))) (λ e h. open_by p k (λ q own. absurd (d own))) (λ h. absurd (subst (λ (x : Stage). SettlesIn x o.todo k) at h)) (λ e. restarts_in (Restarts (Some o) k) p k (λ h. absurd h))) here old)
      where
        p : Job
        p = stands o [] Stage.Ending

        stuck_open : Stage.Stuck ≡ Stage.Ending → ⊥
        stuck_open e = cc

        plain : o.wanted ≡ None
        plain = subst (λ (x : Stage). RebalanceAsks o x) at keeps.asks

        planless : has_plan o.found ≡ false
        planless = subst (λ (x : Stage). StagePlan o x s.core.reserved s.core.nodes) at plan

        here : (n : Node) → node_at o.target s.core.nodes ≡ Some n → FineOf s.tasks None (Some p) o.target (with_problem (Some (re.trouble_of o.found)) n) n.state
        here n there =
            let waits = subst (λ (x : Option Reqs). TargetFits x o.target s.core.nodes) plain keeps.waits in
            let state : n.state ≡ NotStarted = ap (λ (x : Node). x.state) (some_same (node_at o.target s.core.nodes) n waits.0 there waits.1) ∙ waits.2 in
            fine_back s.tasks None (Some p) o.target (with_problem (Some (re.trouble_of o.found)) n) n.state NotStarted state
            (inl (subst (λ (c : Course). GivesUpIn c o.wanted o.target Stage.Ending o.found o.target) (sym course) (plain, refl, planless), (λ e. cc)))

    -- the places are changed
    commits_fine : o.stage ≡ Stage.Committing → Fine (ma.job_lifted s (re.commit_step s.core o)).state
    commits_fine at = goes_on s order alone (re.commit_step s.core o) tt all
      where
        p : Job
        p = re.restart_on s.core.nodes o o.agreed

        planned : has_plan o.found ≡ true
        planned = by_found o.found (subst (λ (x : Stage). StagePlan o x s.core.reserved s.core.nodes) at plan).whole
          where
            by_found : (found : Found) → Rattle.std.specs.List.AllZip Whole (Rattle.pnp_laws.specs.Plans.moving_reqs o s.core.nodes) (plan_of found) → has_plan found ≡ true
            by_found (assignment plan) h = refl
            by_found no_fit h = absurd h
            by_found spent h = absurd h

        onwards : Keeps s order alone o p
        onwards = on p Stage.Committing at (λ e. cc) (λ k h. h) (restart_goal s.core.nodes o.agreed) (λ k h. restart_open s.core.nodes o.agreed k (λ q own. planned)) (λ k n there stopped h. restart_in s.core.nodes o.agreed k h)

        -- who is NotStarted keeps what it needs, and holds what it held or is the device of the rebalance
        waits_on : (k : ℕ) (n : Node) → node_at k s.core.nodes ≡ Some n → n.state ≡ NotStarted → Unstarted s.tasks None (Some p) k n → Unstarted s.tasks None (Some p) k (committed o.wanted o.target (movers o) (plan_of o.found) n)
        waits_on k n there state (inl (gives, troubled)) = inl (gives, troubled)
        waits_on k n there state (inr seeks) = inr (record { clean = seeks.clean; needs = needs; opens = seeks.opens; sought = sought })
          where
            by_wanted : (wanted : Option Reqs) → o.wanted ≡ wanted → re.reqs_after wanted o.target n ≡ n.reqs
            by_wanted None e = refl
            by_wanted (Some wanted) e =
                elim (cases_eq n.serial o.target) [
                  | inl same ↦
                      absurd (let own = own_serial k n s.core.nodes there in change_up o.wanted o.target s.core.nodes n (ap is_some e) keeps.waits (subst (λ (i : ℕ). node_at i s.core.nodes ≡ Some n) (sym own ∙ same) there) state)
                  | inr d ↦ grind (arith, nat_tests)
                ]

            needs : Whole (re.reqs_after o.wanted o.target n) [] → ⊥
            needs h = seeks.needs (subst (λ (x : Reqs). Whole x []) (by_wanted o.wanted refl) h)

            not_agreed : has o.agreed k ≡ false
            not_agreed =
                elim (Rattle.pnp_laws.proofs.Lists.member o.agreed k) [
                  | inl h ↦ absurd (let stopped = head_stopped o.agreed k n.state h (subst (λ (x : Stage). rebalance_state o x k n.state ≡ true) at (keeps.each k n there)) in cc)
                  | inr h ↦ h
                ]

            sought : (part_for n.serial (movers o) (plan_of o.found) n.holds ≢ []) ⊎ ((list_any (makes_room k) s.tasks ≡ true) ⊎ IsTarget (Some p) k)
            sought =
                elim seeks.sought [
                  | inr more ↦ inr more
                  | inl holds ↦
                      elim (cases_eq o.target k) [
                        | inl same ↦ by_plain o.wanted refl same holds
                        | inr d ↦
                            let apart : has (movers o) k ≡ false = let no_other : has (others o) k ≡ false = without_has o.target k o.agreed d ∙ not_agreed in grind (arith, nat_tests) in
                            let own = own_serial k n s.core.nodes there in
                            inl (λ e. holds (sym (part_not n.serial (movers o) (plan_of o.found) n.holds (subst (λ (i : ℕ). has (movers o) i ≡ false) (sym own) apart)) ∙ e))
                      ]
                ]
              where
                by_plain : (wanted : Option Reqs) → o.wanted ≡ wanted → o.target ≡ k → n.holds ≢ [] → (part_for n.serial (movers o) (plan_of o.found) n.holds ≢ []) ⊎ ((list_any (makes_room k) s.tasks ≡ true) ⊎ IsTarget (Some p) k)
                by_plain None e same holds = inr (inr (target_on o p k (restart_goal s.core.nodes o.agreed) (subst (λ (c : Course). IsTargetIn c o.wanted o.target k) (sym course) (e, same))))
                by_plain (Some wanted) e same holds = absurd (change_up o.wanted o.target s.core.nodes n (ap is_some e) keeps.waits (subst (λ (i : ℕ). node_at i s.core.nodes ≡ Some n) (sym same) there) state)

        by_state : (k : ℕ) (n : Node) → node_at k s.core.nodes ≡ Some n → (x : DevState) → n.state ≡ x → FineOf s.tasks None (Some p) k n x → FineOf s.tasks None (Some p) k (committed o.wanted o.target (movers o) (plan_of o.found) n) x
        by_state k n there NoStack e h = h
        by_state k n there NotStarted e h = waits_on k n there e h
        by_state k n there Started e h = h
        by_state k n there StopPending e h = h
        by_state k n there Stopped e h = h
        by_state k n there RemovePending e h = h
        by_state k n there SurpriseRemoved e h = h

        all : FineJob s order alone p (map (committed o.wanted o.target (movers o) (plan_of o.found)) s.core.nodes)
        all k m now =
            let from = map_from k (committed o.wanted o.target (movers o) (plan_of o.found)) s.core.nodes m (λ x. refl) now in
            subst (λ (z : Node). FineOf s.tasks None (Some p) k z z.state) (sym from.2) (by_state k from.0 from.1 from.0.state refl (stays s order alone o p onwards old k from.0 from.1))

    -- a device would not start again
    failed_fine : (node : Node) → first_node s.core.nodes o.todo ≡ Some node → o.stage ≡ Stage.Failed → Fine (ma.job_lifted s (re.failed s.core o node)).state
    failed_fine node first at =
        goes_on s order alone (re.failed s.core o node) tt
        (one s order alone o p node.serial (with_problem (Some Problem.FailedStart)) (λ x. refl)
        (λ k n d there. on p Stage.Failed at (λ e. cc) (λ k h. h) (restart_goal s.core.nodes (rest o.todo)) (λ k h. restart_open s.core.nodes (rest o.todo) k h) (λ k n there stopped h. rest_within k o.todo (restart_in s.core.nodes (rest o.todo) k h)) k n there) here old)
      where
        p : Job
        p = re.restart_on s.core.nodes o (rest o.todo)

        here : (n : Node) → node_at node.serial s.core.nodes ≡ Some n → FineOf s.tasks None (Some p) node.serial (with_problem (Some Problem.FailedStart) n) n.state
        here n own =
            let same = is_own node first n own in
            let state : n.state ≡ Stopped = ap (λ (x : Node). x.state) (sym same) ∙ head_stopped o.todo node.serial node.state (in_todo node first) (each node first Stage.Failed at) in
            fine_back s.tasks None (Some p) node.serial (with_problem (Some Problem.FailedStart) n) n.state Stopped state
            (λ again. absurd (restarts_in ⊥ p node.serial (λ h. let some = restart_in s.core.nodes (rest o.todo) node.serial h in let out = rest_not node.serial o.todo (head node first) keeps.todo in cc) again))

    -- its end
    module _ (at : o.stage ≡ Stage.Ending) where
      -- nothing else is left of it
      apart_over : (t_op : Option Job) (k : ℕ) (n : Node) → t_op ≡ None → o.target ≢ k → node_at k s.core.nodes ≡ Some n → FineOf s.tasks None None k n n.state
      apart_over t_op k n none d there =
          onward s.tasks s.tasks (Some o) None k n None n.state
          (record {
            starts_on = λ e idle h. h;
            room_on = λ e idle h. inl h;
            target_on = λ h. absurd (d (is_target k h));
            gives_on = λ h. absurd (d (gives_is k h));
            open_on = λ e h. tt;
            settles_on = λ h. absurd (subst (λ (x : Stage). SettlesIn x o.todo k) at h);
            restarts_on = λ e h. absurd h;
          }) (old k n there)
        where
          is_target : (k : ℕ) → IsTarget (Some o) k → o.target ≡ k
          is_target k h = (subst (λ (c : Course). IsTargetIn c o.wanted o.target k) course h).1

          gives_is : (k : ℕ) → GivesUp (Some o) k → o.target ≡ k
          gives_is k h = (subst (λ (x : Stage). GivesUpIn Course.Rebalancing o.wanted o.target x o.found k) at (subst (λ (c : Course). GivesUpIn c o.wanted o.target o.stage o.found k) course h)).1

      -- the device of a rebalance
      module _ (plain : o.wanted ≡ None) where
        waits : (n : Node) × (node_at o.target s.core.nodes ≡ Some n) × (n.state ≡ NotStarted)
        waits = subst (λ (x : Option Reqs). TargetFits x o.target s.core.nodes) plain keeps.waits

        own : (n : Node) → node_at o.target s.core.nodes ≡ Some n → n.state ≡ NotStarted
        own n there = ap (λ (x : Node). x.state) (some_same (node_at o.target s.core.nodes) n waits.0 there waits.1) ∙ waits.2

        unstarted : (n : Node) → node_at o.target s.core.nodes ≡ Some n → Unstarted s.tasks None (Some o) o.target n
        unstarted n there = fine_as s.tasks None (Some o) o.target n n.state NotStarted (own n there) (old o.target n there)

        seeks : (n : Node) → node_at o.target s.core.nodes ≡ Some n → has_plan o.found ≡ true → Seeks s.tasks (Some o) o.target n
        seeks n there found =
            elim (unstarted n there) [
              | inr h ↦ h
              | inl (gives, troubled) ↦ absurd (let planless = (subst (λ (x : Stage). GivesUpIn Course.Rebalancing o.wanted o.target x o.found o.target) at (subst (λ (c : Course). GivesUpIn c o.wanted o.target o.stage o.found o.target) course gives)).2 in cc)
            ]

        troubled : (n : Node) → node_at o.target s.core.nodes ≡ Some n → has_plan o.found ≡ false → n.problem ≢ None
        troubled n there planless =
            elim (unstarted n there) [
              | inl (gives, h) ↦ h
              | inr h ↦ absurd (let found = subst (λ (x : Stage). OpenIn Course.Rebalancing o.wanted o.target x o.found o.target) at (subst (λ (c : Course). OpenIn c o.wanted o.target o.stage o.found o.target) course h.opens) plain refl in cc)
            ]

        -- it holds what was found for it
        holds_some : (n : Node) → node_at o.target s.core.nodes ≡ Some n → has_plan o.found ≡ true → (Whole n.reqs [] → ⊥) → n.holds ≢ []
        holds_some n there found needs e = needs (subst (λ (x : List Res). Whole n.reqs x) e (subst (λ (x : Stage). StagePlan o x s.core.reserved s.core.nodes) at plan found n there))

        over_fine : has_plan o.found ≡ true → (k : ℕ) (n : Node) → node_at k s.core.nodes ≡ Some n → FineOf s.tasks None None k n n.state
        over_fine found k n there =
            elim (cases_eq o.target k) [
              | inr d ↦ apart_over None k n refl d there
              | inl e ↦
                  let at_target : node_at o.target s.core.nodes ≡ Some n = subst (λ (i : ℕ). node_at i s.core.nodes ≡ Some n) (sym e) there in
                  let h = seeks n at_target found in
                  fine_back s.tasks None None k n n.state NotStarted (own n at_target) (inr (record { clean = h.clean; needs = h.needs; opens = tt; sought = inl (holds_some n at_target found h.needs) }))
            ]

        entered_fine : (phase : Phase) → ((n : Node) → node_at o.target s.core.nodes ≡ Some n → Rattle.pnp_promises.proofs.Cares.UnlessUndone phase n) → (k : ℕ) (n : Node) → node_at k s.core.nodes ≡ Some n
            → FineOf s.tasks (activity_at k (Rattle.pnp_model.specs.States.entered (record { serial = o.target; phase = phase }) s.activities)) None k n n.state
        entered_fine phase undone k n there =
            elim (cases_eq o.target k) [
              | inr d ↦
                  subst (λ (a : Option Activity). FineOf s.tasks a None k n n.state) (sym (entered_other (record { serial = o.target; phase = phase }) k s.activities d ∙ ap (activity_at k) alone)) (apart_over None k n refl d there)
              | inl e ↦
                  let at_target : node_at o.target s.core.nodes ≡ Some n = subst (λ (i : ℕ). node_at i s.core.nodes ≡ Some n) (sym e) there in
                  let new : Activity = record { serial = o.target; phase = phase } in
                  let here : activity_at o.target (Rattle.pnp_model.specs.States.entered new s.activities) ≡ Some new = entered_same new s.activities (ap (activity_at o.target) alone) in
                  subst (λ (i : ℕ). FineOf s.tasks (activity_at i (Rattle.pnp_model.specs.States.entered new s.activities)) None i n n.state) e
                  (subst (λ (a : Option Activity). FineOf s.tasks a None o.target n n.state) (sym here) (fine_back s.tasks (Some new) None o.target n n.state NotStarted (own n at_target) (undone n at_target)))
            ]

      closes_fine : Fine (ma.job_lifted s (re.close s.core o)).state
      closes_fine = by_found o.found o.wanted refl refl
        where
          over_all : ((k : ℕ) (n : Node) → node_at k s.core.nodes ≡ Some n → FineOf s.tasks None None k n n.state) → Fine (ma.after_job o Beside.Over s)
          over_all h k n there = subst (λ (a : Option Activity). FineOf s.tasks a None k n n.state) (ap (activity_at k) (sym alone)) (h k n there)

          changed_over : (wanted : Reqs) → o.wanted ≡ Some wanted → (k : ℕ) (n : Node) → node_at k s.core.nodes ≡ Some n → FineOf s.tasks None None k n n.state
          changed_over wanted e k n there =
              onward s.tasks s.tasks (Some o) None k n None n.state
              (record {
                starts_on = λ q idle h. h;
                room_on = λ q idle h. inl h;
                target_on = λ h. absurd (let plain = (subst (λ (c : Course). IsTargetIn c o.wanted o.target k) course h).0 in cc);
                gives_on = λ h. absurd (let plain = (subst (λ (x : Stage). GivesUpIn Course.Rebalancing o.wanted o.target x o.found k) at (subst (λ (c : Course). GivesUpIn c o.wanted o.target o.stage o.found k) course h)).0 in cc);
                open_on = λ q h. tt;
                settles_on = λ h. absurd (subst (λ (x : Stage). SettlesIn x o.todo k) at h);
                restarts_on = λ q h. absurd h;
              }) (old k n there)

          by_up : (b : Bool) → o.wanted ≡ None → has_plan o.found ≡ true → Fine (ma.after_job o (if b then Beside.OverStart else Beside.Over) s)
          by_up true plain found = entered_fine plain (Phase.Starting (walk_of Minor.Start)) (λ n there. (seeks plain n there found).clean)
          by_up false plain found = over_all (over_fine plain found)

          by_found : (found : Found) (wanted : Option Reqs) → o.found ≡ found → o.wanted ≡ wanted → Fine (ma.after_job o (re.over s.core o found wanted) s)
          by_found (assignment plan) None e plain = by_up (stands_up s.core.nodes o.target) plain (ap has_plan e)
          by_found no_fit None e plain = entered_fine plain (Phase.Removing (walk_of Minor.Remove)) (λ n there. troubled plain n there (ap has_plan e))
          by_found spent None e plain = entered_fine plain (Phase.Removing (walk_of Minor.Remove)) (λ n there. troubled plain n there (ap has_plan e))
          by_found (assignment plan) (Some wanted) e changes = over_all (changed_over wanted changes)
          by_found no_fit (Some wanted) e changes = over_all (changed_over wanted changes)
          by_found spent (Some wanted) e changes = over_all (changed_over wanted changes)

    -- each step
    act_fine : (stage : Stage) (m : JobMove) → o.stage ≡ stage → RebalanceAct s.core o stage m → Fine (ma.job_lifted s m).state
    act_fine _ _ at (RebalanceAct.searches found budget answer) = found_fine found at
    act_fine _ _ at RebalanceAct.sticks = sticks_fine at
    act_fine _ _ at RebalanceAct.commits = commits_fine at
    act_fine _ _ at (RebalanceAct.failed node first) = failed_fine node first at
    act_fine _ _ at RebalanceAct.closes = closes_fine at

    pub rebalance_fine : (stage : Stage) (m : JobMove) → o.stage ≡ stage → RebalanceStep s.core o stage m → Fine (ma.job_lifted s m).state
    rebalance_fine _ _ at (RebalanceStep.agrees node w e good) =
        let r : Job = record o { agreed = node.serial ∷ o.agreed } in
        let p = re.ask_on r (rest o.todo) in
        let state = head_started o.todo o.agreed node.serial node.state (in_todo node e.first) (each node e.first Stage.Asking at) in
        goes_on s order alone (ended_by s.core node Minor.QueryStop false p) tt
        (walks node e.first p StopPending refl (up_clean node e.first Started state (λ h. h))
        (on p Stage.Asking at (λ q. cc) (λ k h. h) (let same = re_ask_on r (rest o.todo) in record { kind = same.work.kind; wanted = same.work.wanted; target = same.target }) (λ k h. ask_open r k (rest o.todo)) (λ k n there stopped h. absurd (ask_restarts r k (rest o.todo) h))))
    rebalance_fine _ _ at (RebalanceStep.refuses node w e bad) =
        let p = re.answers o node true in
        let state = head_started o.todo o.agreed node.serial node.state (in_todo node e.first) (each node e.first Stage.Asking at) in
        goes_on s order alone (ended_by s.core node Minor.QueryStop true p) tt
        (walks node e.first p node.state (ap is_risen state) (up_clean node e.first Started state (λ h. h))
        (on p Stage.Asking at (λ q. cc) (λ k h. h) (record { kind = refl; wanted = refl; target = refl }) (λ k h. tt) (λ k n there stopped h. h)))
    rebalance_fine _ _ at (RebalanceStep.takes_back node w e) =
        let ks = those (re.is_not_above s.core.nodes node.serial) (rest o.todo) in
        let p = re.ask_on o ks in
        let state = head_started o.todo o.agreed node.serial node.state (in_todo node e.first) (each node e.first Stage.TakingBack at) in
        goes_on s order alone (ended_by s.core node Minor.CancelStop false p) tt
        (walks node e.first p Started refl (up_clean node e.first Started state (λ h. h))
        (on p Stage.TakingBack at (λ q. cc) (λ k h. h) (goal_of o p (re_ask_on o ks)) (λ k h. ask_open o k ks) (λ k n there stopped h. absurd (ask_restarts o k ks h))))
    rebalance_fine _ _ at (RebalanceStep.cancels node w e) =
        let p = re.cancel_on o (rest o.todo) in
        let state = head_pending o.todo node.serial node.state (in_todo node e.first) (each node e.first Stage.Cancelling at) in
        goes_on s order alone (ended_by s.core node Minor.CancelStop false p) tt
        (walks node e.first p Started refl (up_clean node e.first StopPending state (λ h. h))
        (on p Stage.Cancelling at (λ q. cc) (λ k h. h) (goal_of o p (re_cancel_on o (rest o.todo))) (λ k h. cancel_open o k (rest o.todo)) (λ k n there stopped h. absurd (cancel_restarts o k (rest o.todo) h))))
    rebalance_fine _ _ at (RebalanceStep.stops node w e) =
        let p = re.stop_on o (rest o.todo) in
        let state = head_stopping o.todo o.agreed node.serial node.state (in_todo node e.first) (each node e.first Stage.Stopping at) in
        goes_on s order alone (ended_by s.core node Minor.Stop false p) tt
        (walks node e.first p Stopped refl (up_clean node e.first StopPending state (λ h. h))
        (on p Stage.Stopping at (λ q. cc) (λ k h. h) (goal_of o p (re_stop_on o (rest o.todo))) (λ k h. stop_open k (rest o.todo)) (λ k n there stopped h. stop_agreed k (rest o.todo) h)))
      where
        stop_open : (k : ℕ) (ks : List ℕ) → OpenIn Course.Rebalancing (re.stop_on o ks).wanted (re.stop_on o ks).target (re.stop_on o ks).stage (re.stop_on o ks).found k
        stop_open k [] = tt
        stop_open k (j ∷ js) = tt

        stop_agreed : (k : ℕ) (ks : List ℕ) → RestartsIn Course.Rebalancing (re.stop_on o ks).stage (re.stop_on o ks).todo (re.stop_on o ks).agreed k → has o.agreed k ≡ true
        stop_agreed k [] h = h
        stop_agreed k (j ∷ js) h = h
    rebalance_fine _ _ at (RebalanceStep.restarts node w e good) =
        let nodes = (ended s.core node Minor.Start false).nodes in
        let p = re.restart_on nodes o (rest o.todo) in
        let state = head_stopped o.todo node.serial node.state (in_todo node e.first) (each node e.first Stage.Restarting at) in
        goes_on s order alone (ended_by s.core node Minor.Start false p) tt
        (walks node e.first p Started refl (again node e.first state at)
        (on p Stage.Restarting at (λ q. cc) (λ k h. h) (restart_goal nodes (rest o.todo)) (λ k h. restart_open nodes (rest o.todo) k h) (λ k n there stopped h. rest_within k o.todo (restart_in nodes (rest o.todo) k h))))
    rebalance_fine _ _ at (RebalanceStep.fails node w e bad) =
        let p = stands o o.todo Stage.Failed in
        let state = head_stopped o.todo node.serial node.state (in_todo node e.first) (each node e.first Stage.Restarting at) in
        goes_on s order alone (ended_by s.core node Minor.Start true p) tt
        (walks node e.first p node.state (ap is_risen state) (again node e.first state at)
        (on p Stage.Restarting at (λ q. cc) (λ k h. h) (record { kind = refl; wanted = refl; target = refl }) (λ k h. h) (λ k n there stopped h. h)))
    rebalance_fine _ _ at (RebalanceStep.acts stage m act) = act_fine stage m at act
