-- Each step of a rebalance keeps what a run keeps.
use Rattle.std.proofs.Common.{ℕ, ◌≡◌, ◌≢◌, ◌==◌, inl, inr, Bool, true, false, not, cond, List, [], ◌∷◌, map, Option, Some, None, refl, sym, ap, ◌∙◌, subst, arith, reverse, if◌then◌else◌}
use Rattle.std.proofs.lemmas.Bool.{cases_eq}
use Rattle.std.proofs.lemmas.Bool.Decides.{nat_tests}
use Rattle.std.specs.Option.{option_map}
use Rattle.resource_reqs.specs.Spelling.Answer.{assignment, no_fit, spent}
use Rattle.pnp_model.specs.Keyed.{changed_first, those}
use Rattle.pnp_model.specs.Records.{Node, Activity, Phase, State, Found, Course, Job, Stage, course_of}
use Rattle.pnp_model.specs.Cores.{is_node, node_at, with_state, with_problem, serials_of}
use Rattle.pnp_model.specs.Walks.{walk_of}
use Rattle.pnp_model.specs.Tests.{has, is_started}
use Rattle.pnp_model.specs.Trees.{stands_up}
use Rattle.pnp_model.specs.Frames.{rest}
use Rattle.resource_reqs.specs.Resources.{Reqs}
use Rattle.pnp_model.specs.Rebalances.{ask_on, cancelled, cancel_on, has_refused, stop_on, startable, restart_on, is_asked, begun_with, begun_rebalance, begun_change, is_not_above, searched, trouble_of, committed, movers, plan_of, over, result}
use Rattle.pnp_laws.specs.Kept.{Good, Lawful, Each, OperationFits, Distinct, Apart, Within, Waits, Changes, TargetFits, is_changing, RebalanceKeeps, kind_by, asking_state, pending_state, stopping_state, stopped_state, Fits, is_calm, is_stopped}
use Rattle.pnp_labels.specs.declared.states.DevState.{DevState}
use Rattle.pnp_labels.specs.declared.words.Minor.{Minor}
use Rattle.pnp_labels.specs.declared.states.Problem.{Problem}
use Rattle.pnp_labels.specs.declared.states.DevState.TheVariants.{NotStarted, Started, StopPending, Stopped}
use Rattle.pnp_laws.proofs.Lookups.{own_serial, found_self, node_changed_same, node_changed_other}
use Rattle.pnp_model.specs.States.{entered}
use Rattle.pnp_model.specs.Records.Phase.{Starting, Removing}
use Rattle.pnp_laws.proofs.Diagrams.{Each_changed, Each_same, Each_mapped}
use Rattle.pnp_laws.proofs.Kept.{lawful_by, Good_nodes, Good_mapped}
use Rattle.pnp_laws.proofs.Lists.{HeadIs, head_has, rest_has, rest_not, rest_distinct, rest_within, those_has, those_not, those_distinct, those_found, serials_distinct}
use Rattle.pnp_laws.proofs.OpSteps.{lawful_walked, lawful_still, lawful_close, target_changed, target_mapped, target_there, is_Started, is_StopPending, is_Stopped, started_calm, stopped_calm, has-reverse, Distinct-reverse}
use Rattle.pnp_laws.proofs.Truths.{and_both}
use Rattle.pnp_laws.proofs.FinishSteps.{at_work, lawful_ended}
use Rattle.pnp_laws.proofs.RemovalSteps.{asked_apart}
use Rattle.pnp_laws.proofs.Stages.{RebalanceAct, RebalanceStep}
use Rattle.pnp_laws.proofs.FitsBy.{by_kind, fit}
use Rattle.pnp_model.specs.Jobs.{Beside, JobMove, closes, each_gets, job_of, stands}
use Rattle.pnp_model.specs.Machine.{job_lifted}
use Rattle.pnp_labels.specs.declared.label.OpEnd.{OpEnd}
use Rattle.pnp_labels.specs.declared.label.OpKind.{OpKind}

-- What comes next keeps the facts ------------------------------------------------

fits_cancelled : (r : Job) → r.kind ≡ kind_by r.wanted → (wanted : Option Reqs) (nodes : List Node) → r.wanted ≡ wanted → Distinct r.agreed → has r.agreed 0 ≡ false →
    Each (λ k x. is_calm x) nodes → TargetFits r.wanted r.target nodes → OperationFits (Some (stands r [] (cancelled wanted))) nodes
fits_cancelled r kind None nodes e b d each waits = fit Course.Rebalancing _ _ (by_kind r kind) (record { kind = kind; own = refl; todo = tt; agreed = b; rootless = refl; no_root = d; asks = e; each = each; waits = waits })
fits_cancelled r kind (Some wanted) nodes e b d each waits = fit Course.Rebalancing _ _ (by_kind r kind) (record { kind = kind; own = refl; todo = tt; agreed = b; rootless = refl; no_root = d; asks = tt; each = each; waits = waits })

fits_cancel_on : (r : Job) → r.kind ≡ kind_by r.wanted → (ks : List ℕ) (nodes : List Node) → Distinct ks → Distinct r.agreed → has ks 0 ≡ false → has r.agreed 0 ≡ false →
    Each (pending_state ks) nodes → TargetFits r.wanted r.target nodes → OperationFits (Some (cancel_on r ks)) nodes
fits_cancel_on r kind [] nodes a b c d each waits = fits_cancelled r kind r.wanted nodes refl b d each waits
fits_cancel_on r kind (k ∷ ks) nodes a b c d each waits = fit Course.Rebalancing _ _ (by_kind r kind) (record { kind = kind; own = refl; todo = a; agreed = b; rootless = c; no_root = d; asks = tt; each = each; waits = waits })

fits_search_on : (r : Job) → r.kind ≡ kind_by r.wanted → (refused : Bool) (nodes : List Node) → Distinct r.agreed → has r.agreed 0 ≡ false →
    Each (pending_state r.agreed) nodes → TargetFits r.wanted r.target nodes → OperationFits (Some (if refused then cancel_on r r.agreed else stands r [] Stage.Searching)) nodes
fits_search_on r kind false nodes b d each waits = fit Course.Rebalancing _ _ (by_kind r kind) (record { kind = kind; own = refl; todo = tt; agreed = b; rootless = refl; no_root = d; asks = tt; each = each; waits = waits })
fits_search_on r kind true nodes b d each waits = fits_cancel_on r kind r.agreed nodes b b d d each waits

fits_ask_on : (r : Job) → r.kind ≡ kind_by r.wanted → (ks : List ℕ) (nodes : List Node) → Distinct ks → Distinct r.agreed → has ks 0 ≡ false → has r.agreed 0 ≡ false → Apart ks r.agreed →
    Each (asking_state ks r.agreed) nodes → TargetFits r.wanted r.target nodes → OperationFits (Some (ask_on r ks)) nodes
fits_ask_on r kind [] nodes a b c d e each waits = fits_search_on r kind (has_refused r) nodes b d each waits
fits_ask_on r kind (k ∷ ks) nodes a b c d e each waits = fit Course.Rebalancing _ _ (by_kind r kind) (record { kind = kind; own = refl; todo = a; agreed = b; rootless = c; no_root = d; asks = e; each = each; waits = waits })

fits_stop_on : (r : Job) → r.kind ≡ kind_by r.wanted → (ks : List ℕ) (nodes : List Node) → Distinct ks → Distinct r.agreed → has ks 0 ≡ false → has r.agreed 0 ≡ false → Within ks r.agreed →
    Each (stopping_state ks r.agreed) nodes → TargetFits r.wanted r.target nodes → OperationFits (Some (stop_on r ks)) nodes
fits_stop_on r kind [] nodes a b c d e each waits = fit Course.Rebalancing _ _ (by_kind r kind) (record { kind = kind; own = refl; todo = tt; agreed = b; rootless = refl; no_root = d; asks = tt; each = each; waits = waits })
fits_stop_on r kind (k ∷ ks) nodes a b c d e each waits = fit Course.Rebalancing _ _ (by_kind r kind) (record { kind = kind; own = refl; todo = a; agreed = b; rootless = c; no_root = d; asks = e; each = each; waits = waits })

fits_restart_from : (r : Job) → r.kind ≡ kind_by r.wanted → (ks : List ℕ) (nodes : List Node) → Distinct ks → Distinct r.agreed → has ks 0 ≡ false → has r.agreed 0 ≡ false →
    Each (stopped_state ks) nodes → TargetFits r.wanted r.target nodes → OperationFits (Some (each_gets Minor.Start Stage.Restarting r ks (stands r [] Stage.Ending))) nodes
fits_restart_from r kind [] nodes a b c d each waits = fit Course.Rebalancing _ _ (by_kind r kind) (record { kind = kind; own = refl; todo = tt; agreed = b; rootless = refl; no_root = d; asks = tt; each = each; waits = waits })
fits_restart_from r kind (k ∷ ks) nodes a b c d each waits = fit Course.Rebalancing _ _ (by_kind r kind) (record { kind = kind; own = refl; todo = a; agreed = b; rootless = c; no_root = d; asks = tt; each = each; waits = waits })

-- those that can be restarted are among these
pub startable_has : (nodes : List Node) (ks : List ℕ) (k : ℕ) → has ks k ≡ false → has (startable nodes ks) k ≡ false
startable_has nodes [] k h = refl
startable_has nodes (j ∷ js) k h = grind (arith, nat_tests, startable_has nodes js k)

startable_distinct : (nodes : List Node) (ks : List ℕ) → Distinct ks → Distinct (startable nodes ks)
startable_distinct nodes [] d = tt
startable_distinct nodes (j ∷ js) d =
    let by_test : (b : Bool) → Distinct (cond b (j ∷ js) (startable nodes js)) =
    λ b. elim b as (λ b. Distinct (cond b (j ∷ js) (startable nodes js))) [ true ↦ d | false ↦ startable_distinct nodes js d.1 ] in
    by_test (stands_up nodes j)

fewer_stopped : (ks js : List ℕ) (k : ℕ) (x : DevState) → (has js k ≡ false → has ks k ≡ false) → stopped_state js k x ≡ true → stopped_state ks k x ≡ true
fewer_stopped ks js k x within h =
    let by_two : (a b : Bool) → (b ≡ false → a ≡ false) → cond b (is_stopped x) (is_calm x) ≡ true → cond a (is_stopped x) (is_calm x) ≡ true =
    λ a b. elim b as (λ b. (b ≡ false → a ≡ false) → cond b (is_stopped x) (is_calm x) ≡ true → cond a (is_stopped x) (is_calm x) ≡ true) [
      | true ↦ λ w g. elim a as (λ a. cond a (is_stopped x) (is_calm x) ≡ true) [ true ↦ g | false ↦ stopped_calm x g ]
      | false ↦ λ w g. subst (λ (c : Bool). cond c (is_stopped x) (is_calm x) ≡ true) (sym (w refl)) g
    ] in
    by_two (has ks k) (has js k) within h

fits_restart_on : (others : List Node) (r : Job) → r.kind ≡ kind_by r.wanted → (ks : List ℕ) (nodes : List Node) → Distinct ks → Distinct r.agreed → has ks 0 ≡ false → has r.agreed 0 ≡ false →
    Each (stopped_state ks) nodes → TargetFits r.wanted r.target nodes → OperationFits (Some (restart_on others r ks)) nodes
fits_restart_on others r kind ks nodes a b c d each waits =
    fits_restart_from r kind (startable others ks) nodes (startable_distinct others ks a) b (startable_has others ks 0 c) d
    (Each_same (stopped_state ks) (stopped_state (startable others ks)) nodes
    (λ k x h. fewer_stopped (startable others ks) ks k x (startable_has others ks k) h) each) waits

-- how the states of others are seen as lists change

asked_here : (todo agreed : List ℕ) (j : ℕ) → has todo j ≡ false → asking_state todo (j ∷ agreed) j StopPending ≡ true
asked_here todo agreed j h = grind (arith, nat_tests)

asked_there : (todo more agreed : List ℕ) (j k : ℕ) (x : DevState) → j ≢ k → has more k ≡ has todo k → asking_state todo agreed k x ≡ true → asking_state more (j ∷ agreed) k x ≡ true
asked_there todo more agreed j k x d e h = grind (arith, nat_tests)

fewer_asked : (todo more agreed : List ℕ) (k : ℕ) (x : DevState) → (has more k ≡ true → has todo k ≡ true) → (has todo k ≡ true → has agreed k ≡ false) → asking_state todo agreed k x ≡ true → asking_state more agreed k x ≡ true
fewer_asked todo more agreed k x within apart h = grind (arith, nat_tests, started_calm x)

-- the head of what is to do

pub rootless_head : (j : ℕ) (todo : List ℕ) → HeadIs j todo → has todo 0 ≡ false → j ≢ 0
rootless_head j todo h g = λ z. let there = head_has j todo h in let here = subst (λ (i : ℕ). has todo i ≡ true) z there in cc

rest_rootless : (todo : List ℕ) → has todo 0 ≡ false → has (rest todo) 0 ≡ false
rest_rootless [] h = h
rest_rootless (i ∷ is) h = grind (arith, nat_tests)

pub head_started : (todo agreed : List ℕ) (j : ℕ) (x : DevState) → has todo j ≡ true → asking_state todo agreed j x ≡ true → x ≡ Started
head_started todo agreed j x h g = is_Started x (grind (arith))

pub head_pending : (todo : List ℕ) (j : ℕ) (x : DevState) → has todo j ≡ true → pending_state todo j x ≡ true → x ≡ StopPending
head_pending todo j x h g = is_StopPending x (grind (arith))

pub head_stopping : (todo agreed : List ℕ) (j : ℕ) (x : DevState) → has todo j ≡ true → stopping_state todo agreed j x ≡ true → x ≡ StopPending
head_stopping todo agreed j x h g = is_StopPending x (grind (arith))

pub head_stopped : (todo : List ℕ) (j : ℕ) (x : DevState) → has todo j ≡ true → stopped_state todo j x ≡ true → x ≡ Stopped
head_stopped todo j x h g = is_Stopped x (grind (arith))

-- What the steps need ---------------------------------------------------------------------

back_here : (todo agreed more : List ℕ) (j : ℕ) → has todo j ≡ true → has more j ≡ false → Apart todo agreed → asking_state more agreed j Started ≡ true
back_here todo agreed more j h g apart = let a = apart j h in grind (arith)

turned_stopping : (agreed : List ℕ) (k : ℕ) (x : DevState) → pending_state agreed k x ≡ true → stopping_state (reverse agreed) agreed k x ≡ true
turned_stopping agreed k x h = let e = has-reverse agreed k in grind (arith)

rest_pending : (todo : List ℕ) (k : ℕ) (x : DevState) → has (rest todo) k ≡ has todo k → pending_state todo k x ≡ true → pending_state (rest todo) k x ≡ true
rest_pending todo k x e h = grind (arith)

calm_pending : (todo : List ℕ) (k : ℕ) → has todo k ≡ false → pending_state todo k Started ≡ true
calm_pending todo k h = grind (arith)

-- a problem of a node changes no state
problem_each : (test : ℕ → DevState → Bool) (j : ℕ) (problem : Option Problem) (nodes : List Node) (n : Node) → node_at j nodes ≡ Some n → Each test nodes → Each test (changed_first (is_node j) (with_problem problem) nodes)
problem_each test j problem nodes n at each =
    Each_changed test test j (with_problem problem) nodes n (λ x. refl) at (each j n at) (λ k x d h. h) each

problem_waits : (k j : ℕ) (problem : Option Problem) (nodes : List Node) → Waits k nodes → Waits k (changed_first (is_node j) (with_problem problem) nodes)
problem_waits k j problem nodes w =
    elim (cases_eq j k) [
      | inl e ↦
          let same = node_changed_same k (with_problem problem) nodes (λ x. refl) in
          let there = w.1 in
          (with_problem problem w.0, subst (λ (i : ℕ). node_at k (changed_first (is_node i) (with_problem problem) nodes) ≡ Some (with_problem problem w.0)) (sym e) (same ∙ ap (option_map (with_problem problem)) there), w.2)
      | inr d ↦ (w.0, node_changed_other j k (with_problem problem) nodes (λ x. refl) d ∙ w.1, w.2)
    ]

problem_changes : (k j : ℕ) (problem : Option Problem) (nodes : List Node) → Changes k nodes → Changes k (changed_first (is_node j) (with_problem problem) nodes)
problem_changes k j problem nodes w =
    elim (cases_eq j k) [
      | inl e ↦
          let same = node_changed_same k (with_problem problem) nodes (λ x. refl) in
          let there = w.1 in
          (with_problem problem w.0, subst (λ (i : ℕ). node_at k (changed_first (is_node i) (with_problem problem) nodes) ≡ Some (with_problem problem w.0)) (sym e) (same ∙ ap (option_map (with_problem problem)) there), w.2, w.3)
      | inr d ↦ (w.0, node_changed_other j k (with_problem problem) nodes (λ x. refl) d ∙ w.1, w.2, w.3)
    ]

problem_target : (wanted : Option Reqs) (k j : ℕ) (problem : Option Problem) (nodes : List Node) → TargetFits wanted k nodes → TargetFits wanted k (changed_first (is_node j) (with_problem problem) nodes)
problem_target None k j problem nodes w = problem_waits k j problem nodes w
problem_target (Some wanted) k j problem nodes w = problem_changes k j problem nodes w

stop_here : (todo agreed : List ℕ) (j : ℕ) → has todo j ≡ false → has agreed j ≡ true → stopping_state todo agreed j Stopped ≡ true
stop_here todo agreed j h g = grind (arith)

rest_stopping : (todo agreed : List ℕ) (k : ℕ) (x : DevState) → has (rest todo) k ≡ has todo k → stopping_state todo agreed k x ≡ true → stopping_state (rest todo) agreed k x ≡ true
rest_stopping todo agreed k x e h = grind (arith)

rest_stopped : (todo : List ℕ) (k : ℕ) (x : DevState) → has (rest todo) k ≡ has todo k → stopped_state todo k x ≡ true → stopped_state (rest todo) k x ≡ true
rest_stopped todo k x e h = grind (arith)

calm_stopped : (todo : List ℕ) (k : ℕ) (x : DevState) → has todo k ≡ false → is_calm x ≡ true → stopped_state todo k x ≡ true
calm_stopped todo k x h g = grind (arith)

lawful_then : (s t : State) (r : Job) (phase : Phase) → t.next_serial ≡ s.next_serial → t.core.nodes ≡ s.core.nodes → t.activities ≡ entered (record { serial = r.target; phase = phase }) s.activities → t.operation ≡ None →
    s.activities ≡ [] → Fits phase NotStarted → Waits r.target s.core.nodes → RebalanceKeeps r Stage.Ending s.core.nodes → Good s.next_serial s.core.nodes [] (Some r) → Lawful t
lawful_then s t r phase a b c d alone fit waits keeps good =
    let node = waits.0 in
    let x : Activity = record { serial = r.target; phase = phase } in
    lawful_by t s.next_serial s.core.nodes (x ∷ []) None a b (c ∙ ap (entered x) alone) d
    (Good_nodes s.next_serial s.core.nodes [] (x ∷ []) (Some r) None (omega arith, tt)
    (λ k y g.
    let at = waits.1 in
    let e : r.target ≡ k = grind (arith, nat_tests) in
    let same : x ≡ y = grind (arith, nat_tests) in (
      node,
      subst (λ (i : ℕ). node_at i s.core.nodes ≡ Some node) e at,
      (λ z. let up = (good.stacks r.target node at).root (e ∙ z) in let w = waits.2 in cc),
      subst (λ (v : Activity). Fits v.phase node.state) same (subst (λ (v : DevState). Fits phase v) (sym waits.2) fit),
    ))
    tt keeps.each good)

-- The steps --------------------------------------------------------------------------

module _ (s : State) (r : Job) (course : course_of r.kind ≡ Course.Rebalancing) (alone : s.activities ≡ []) (good : Good s.next_serial s.core.nodes [] (Some r)) where
  re_searched : (found : Found) → RebalanceKeeps r Stage.Searching s.core.nodes → Lawful (job_lifted s (searched s.core r found)).state
  re_searched (assignment plan) keeps =
      lawful_still s _ r _ refl refl alone refl
      (fits_stop_on (record r { found = assignment plan }) keeps.kind (reverse r.agreed) s.core.nodes (Distinct-reverse r.agreed keeps.agreed) keeps.agreed
      (has-reverse r.agreed 0 ∙ keeps.no_root) keeps.no_root
      (λ k h. sym (has-reverse r.agreed k) ∙ h)
      (Each_same (pending_state r.agreed) (stopping_state (reverse r.agreed) r.agreed) s.core.nodes (λ k x h. turned_stopping r.agreed k x h) keeps.each)
      keeps.waits) good
  re_searched no_fit keeps =
      lawful_still s _ r _ refl refl alone refl
      (fits_cancel_on (record r { found = no_fit }) keeps.kind r.agreed s.core.nodes keeps.agreed keeps.agreed keeps.no_root keeps.no_root keeps.each keeps.waits) good
  re_searched spent keeps =
      lawful_still s _ r _ refl refl alone refl
      (fits_cancel_on (record r { found = spent }) keeps.kind r.agreed s.core.nodes keeps.agreed keeps.agreed keeps.no_root keeps.no_root keeps.each keeps.waits) good

  re_moved : (up : Bool) (result : OpEnd) → Waits r.target s.core.nodes → RebalanceKeeps r Stage.Ending s.core.nodes → Lawful (job_lifted s (closes s.core r result (if up then Beside.OverStart else Beside.Over))).state
  re_moved true result waits keeps = lawful_then s _ r (Starting (walk_of Minor.Start)) refl refl refl refl alone refl waits keeps good
  re_moved false result waits keeps = lawful_close s _ r refl refl alone refl keeps.each good

  re_closes : (found : Found) (wanted : Option Reqs) (result : OpEnd) → TargetFits wanted r.target s.core.nodes → RebalanceKeeps r Stage.Ending s.core.nodes
      → Lawful (job_lifted s (closes s.core r result (over s.core r found wanted))).state
  re_closes (assignment plan) None result waits keeps = re_moved (stands_up s.core.nodes r.target) result waits keeps
  re_closes no_fit None result waits keeps = lawful_then s _ r (Removing (walk_of Minor.Remove)) refl refl refl refl alone refl waits keeps good
  re_closes spent None result waits keeps = lawful_then s _ r (Removing (walk_of Minor.Remove)) refl refl refl refl alone refl waits keeps good
  re_closes (assignment plan) (Some wanted) result waits keeps = lawful_close s _ r refl refl alone refl keeps.each good
  re_closes no_fit (Some wanted) result waits keeps = lawful_close s _ r refl refl alone refl keeps.each good
  re_closes spent (Some wanted) result waits keeps = lawful_close s _ r refl refl alone refl keeps.each good

  pub lawful_rebalance : (stage : Stage) (m : JobMove) → RebalanceKeeps r stage s.core.nodes → RebalanceStep s.core r stage m → Lawful (job_lifted s m).state
  lawful_rebalance stage m keeps (RebalanceStep.agrees node w e ok) =
      let work = at_work s r node alone e.first good in
      let here = head_has node.serial r.todo work.head in
      let state = head_started r.todo r.agreed node.serial node.state here (keeps.each node.serial node work.at) in
      let j = node.serial in
      let not_rest = rest_not j r.todo work.head keeps.todo in
      lawful_ended s _ node r _ Started StopPending work state (rootless_head node.serial r.todo work.head keeps.rootless) refl refl refl refl (λ e. cc) (λ e. cc)
      (λ stacks. fits_ask_on (record r { agreed = j ∷ r.agreed }) keeps.kind (rest r.todo) (changed_first (is_node j) (with_state StopPending) s.core.nodes)
      (rest_distinct r.todo keeps.todo)
      (keeps.asks j here, keeps.agreed)
      (rest_rootless r.todo keeps.rootless)
      (let up = rootless_head node.serial r.todo work.head keeps.rootless in let old = keeps.no_root in grind (arith, nat_tests))
      (asked_apart r.todo (rest r.todo) r.agreed j not_rest (λ k h. rest_within k r.todo h) keeps.asks)
      (Each_changed (asking_state r.todo r.agreed) (asking_state (rest r.todo) (j ∷ r.agreed)) j (with_state StopPending) s.core.nodes node (λ x. refl) work.at
      (asked_here (rest r.todo) r.agreed j not_rest)
      (λ k x d h. asked_there r.todo (rest r.todo) r.agreed j k x d (rest_has j k r.todo work.head d) h) keeps.each)
      (target_changed r.wanted r.target j (with_state StopPending) s.core.nodes node (λ x. refl) work.at (λ e. let z = state in cc) refl keeps.waits))
  lawful_rebalance stage m keeps (RebalanceStep.refuses node w e bad) =
      let work = at_work s r node alone e.first good in
      let here = head_has node.serial r.todo work.head in
      let state = head_started r.todo r.agreed node.serial node.state here (keeps.each node.serial node work.at) in
      let j = node.serial in
      lawful_ended s _ node r _ Started node.state work state (rootless_head node.serial r.todo work.head keeps.rootless) refl refl refl refl (λ e. cc) (λ e. let z = state in cc)
      (λ stacks. fit Course.Rebalancing _ _ course (record {
        kind = keeps.kind;
        own = refl;
        todo = keeps.todo;
        agreed = keeps.agreed;
        rootless = keeps.rootless;
        no_root = keeps.no_root;
        asks = keeps.asks;
        each =
            Each_changed (asking_state r.todo r.agreed) (asking_state r.todo r.agreed) j (with_state node.state) s.core.nodes node (λ x. refl) work.at
            (keeps.each j node work.at) (λ k x d h. h) keeps.each;
        waits = target_changed r.wanted r.target j (with_state node.state) s.core.nodes node (λ x. refl) work.at (λ e. let z = state in cc) (ap is_changing state) keeps.waits;
      }))
  lawful_rebalance stage m keeps (RebalanceStep.takes_back node w e) =
      let work = at_work s r node alone e.first good in
      let here = head_has node.serial r.todo work.head in
      let state = head_started r.todo r.agreed node.serial node.state here (keeps.each node.serial node work.at) in
      let j = node.serial in
      let more = those (is_not_above s.core.nodes j) (rest r.todo) in
      let not_more = those_not (is_not_above s.core.nodes j) (rest r.todo) j (rest_not j r.todo work.head keeps.todo) in
      let within : (k : ℕ) → has more k ≡ true → has r.todo k ≡ true = λ k h. rest_within k r.todo (those_has (is_not_above s.core.nodes j) (rest r.todo) k h).0 in
      lawful_ended s _ node r _ Started Started work state (rootless_head node.serial r.todo work.head keeps.rootless) refl refl refl refl (λ e. cc) (λ e. cc)
      (λ stacks. fits_ask_on r keeps.kind more (changed_first (is_node j) (with_state Started) s.core.nodes)
      (those_distinct (is_not_above s.core.nodes j) (rest r.todo) (rest_distinct r.todo keeps.todo))
      keeps.agreed
      (those_not (is_not_above s.core.nodes j) (rest r.todo) 0 (rest_rootless r.todo keeps.rootless))
      keeps.no_root
      (λ k h. keeps.asks k (within k h))
      (Each_changed (asking_state r.todo r.agreed) (asking_state more r.agreed) j (with_state Started) s.core.nodes node (λ x. refl) work.at
      (back_here r.todo r.agreed more j here not_more keeps.asks)
      (λ k x d h. fewer_asked r.todo more r.agreed k x (within k) (keeps.asks k) h) keeps.each)
      (target_changed r.wanted r.target j (with_state Started) s.core.nodes node (λ x. refl) work.at (λ e. let z = state in cc) refl keeps.waits))
  lawful_rebalance stage m keeps (RebalanceStep.acts _ _ (RebalanceAct.searches found budget answer)) = re_searched found keeps
  lawful_rebalance stage m keeps (RebalanceStep.cancels node w e) =
      let work = at_work s r node alone e.first good in
      let here = head_has node.serial r.todo work.head in
      let state = head_pending r.todo node.serial node.state here (keeps.each node.serial node work.at) in
      let j = node.serial in
      lawful_ended s _ node r _ StopPending Started work state (rootless_head node.serial r.todo work.head keeps.rootless) refl refl refl refl (λ e. cc) (λ e. cc)
      (λ stacks. fits_cancel_on r keeps.kind (rest r.todo) (changed_first (is_node j) (with_state Started) s.core.nodes)
      (rest_distinct r.todo keeps.todo) keeps.agreed (rest_rootless r.todo keeps.rootless) keeps.no_root
      (Each_changed (pending_state r.todo) (pending_state (rest r.todo)) j (with_state Started) s.core.nodes node (λ x. refl) work.at
      (calm_pending (rest r.todo) j (rest_not j r.todo work.head keeps.todo))
      (λ k x d h. rest_pending r.todo k x (rest_has j k r.todo work.head d) h) keeps.each)
      (target_changed r.wanted r.target j (with_state Started) s.core.nodes node (λ x. refl) work.at (λ e. let z = state in cc) refl keeps.waits))
  lawful_rebalance stage m keeps (RebalanceStep.acts _ _ RebalanceAct.sticks) =
      let there = target_there r.wanted r.target s.core.nodes keeps.waits in
      let node = there.0 in
      let own = own_serial r.target node s.core.nodes there.1 in
      let at = found_self r.target s.core.nodes node there.1 in
      let f = with_problem (Some (trouble_of r.found)) in
      lawful_walked s _ f node r (stands r [] Stage.Ending) refl
      (ap (λ (i : ℕ). changed_first (is_node i) f s.core.nodes) (sym own)) alone refl (λ x. refl) at (good.stacks node.serial node at)
      (fit Course.Rebalancing _ _ course (record {
        kind = keeps.kind;
        own = refl;
        todo = tt;
        agreed = keeps.agreed;
        rootless = refl;
        no_root = keeps.no_root;
        asks = tt;
        each = problem_each (λ k x. is_calm x) node.serial (Some (trouble_of r.found)) s.core.nodes node at keeps.each;
        waits = problem_target r.wanted r.target node.serial (Some (trouble_of r.found)) s.core.nodes keeps.waits;
      }))
      good
  lawful_rebalance stage m keeps (RebalanceStep.stops node w e) =
      let work = at_work s r node alone e.first good in
      let here = head_has node.serial r.todo work.head in
      let state = head_stopping r.todo r.agreed node.serial node.state here (keeps.each node.serial node work.at) in
      let j = node.serial in
      lawful_ended s _ node r _ StopPending Stopped work state (rootless_head node.serial r.todo work.head keeps.rootless) refl refl refl refl (λ e. cc) (λ e. cc)
      (λ stacks. fits_stop_on r keeps.kind (rest r.todo) (changed_first (is_node j) (with_state Stopped) s.core.nodes)
      (rest_distinct r.todo keeps.todo) keeps.agreed (rest_rootless r.todo keeps.rootless) keeps.no_root
      (λ k h. keeps.asks k (rest_within k r.todo h))
      (Each_changed (stopping_state r.todo r.agreed) (stopping_state (rest r.todo) r.agreed) j (with_state Stopped) s.core.nodes node (λ x. refl) work.at
      (stop_here (rest r.todo) r.agreed j (rest_not j r.todo work.head keeps.todo) (keeps.asks j here))
      (λ k x d h. rest_stopping r.todo r.agreed k x (rest_has j k r.todo work.head d) h) keeps.each)
      (target_changed r.wanted r.target j (with_state Stopped) s.core.nodes node (λ x. refl) work.at (λ e. let z = state in cc) refl keeps.waits))
  lawful_rebalance stage m keeps (RebalanceStep.acts _ _ RebalanceAct.commits) =
      let f = committed r.wanted r.target (movers r) (plan_of r.found) in
      let fits = fits_restart_on s.core.nodes r keeps.kind r.agreed (map f s.core.nodes) keeps.agreed keeps.agreed keeps.no_root keeps.no_root
      (Each_mapped (stopped_state r.agreed) (stopped_state r.agreed) f s.core.nodes (λ x. refl) (λ x. refl) (λ k x h. h) keeps.each)
      (target_mapped r.wanted r.target f s.core.nodes (λ x. refl) (λ x. refl) keeps.waits) in
      lawful_by _ s.next_serial (map f s.core.nodes) [] (Some (restart_on s.core.nodes r r.agreed)) refl refl alone refl
      (Good_mapped s.next_serial f s.core.nodes (Some r) (Some (restart_on s.core.nodes r r.agreed)) (λ x. refl) (λ x. refl) (λ x. refl) fits refl good)
  lawful_rebalance stage m keeps (RebalanceStep.restarts node w e ok) =
      let work = at_work s r node alone e.first good in
      let here = head_has node.serial r.todo work.head in
      let state = head_stopped r.todo node.serial node.state here (keeps.each node.serial node work.at) in
      let j = node.serial in
      let nodes = changed_first (is_node j) (with_state Started) s.core.nodes in
      lawful_ended s _ node r _ Stopped Started work state (rootless_head node.serial r.todo work.head keeps.rootless) refl refl refl refl (λ e. cc) (λ e. cc)
      (λ stacks. fits_restart_on nodes r keeps.kind (rest r.todo) nodes
      (rest_distinct r.todo keeps.todo) keeps.agreed (rest_rootless r.todo keeps.rootless) keeps.no_root
      (Each_changed (stopped_state r.todo) (stopped_state (rest r.todo)) j (with_state Started) s.core.nodes node (λ x. refl) work.at
      (calm_stopped (rest r.todo) j Started (rest_not j r.todo work.head keeps.todo) refl)
      (λ k x d h. rest_stopped r.todo k x (rest_has j k r.todo work.head d) h) keeps.each)
      (target_changed r.wanted r.target j (with_state Started) s.core.nodes node (λ x. refl) work.at (λ e. let z = state in cc) refl keeps.waits))
  lawful_rebalance stage m keeps (RebalanceStep.fails node w e bad) =
      let work = at_work s r node alone e.first good in
      let here = head_has node.serial r.todo work.head in
      let state = head_stopped r.todo node.serial node.state here (keeps.each node.serial node work.at) in
      let j = node.serial in
      lawful_ended s _ node r _ Stopped node.state work state (rootless_head node.serial r.todo work.head keeps.rootless) refl refl refl refl (λ e. cc) (λ e. let z = state in cc)
      (λ stacks. fit Course.Rebalancing _ _ course (record {
        kind = keeps.kind;
        own = refl;
        todo = keeps.todo;
        agreed = keeps.agreed;
        rootless = keeps.rootless;
        no_root = keeps.no_root;
        asks = tt;
        each =
            Each_changed (stopped_state r.todo) (stopped_state r.todo) j (with_state node.state) s.core.nodes node (λ x. refl) work.at
            (keeps.each j node work.at) (λ k x d h. h) keeps.each;
        waits = target_changed r.wanted r.target j (with_state node.state) s.core.nodes node (λ x. refl) work.at (λ e. let z = state in cc) (ap is_changing state) keeps.waits;
      }))
  lawful_rebalance stage m keeps (RebalanceStep.acts _ _ (RebalanceAct.failed node first)) =
      let work = at_work s r node alone first good in
      let here = head_has node.serial r.todo work.head in
      let state = head_stopped r.todo node.serial node.state here (keeps.each node.serial node work.at) in
      let j = node.serial in
      let nodes = changed_first (is_node j) (with_problem (Some Problem.FailedStart)) s.core.nodes in
      lawful_walked s _ (with_problem (Some Problem.FailedStart)) node r _ refl
      refl work.alone refl (λ x. refl) work.at (work.good.stacks j node work.at)
      (fits_restart_on s.core.nodes r keeps.kind (rest r.todo) nodes
      (rest_distinct r.todo keeps.todo) keeps.agreed (rest_rootless r.todo keeps.rootless) keeps.no_root
      (Each_changed (stopped_state r.todo) (stopped_state (rest r.todo)) j (with_problem (Some Problem.FailedStart)) s.core.nodes node (λ x. refl) work.at
      (calm_stopped (rest r.todo) j node.state (rest_not j r.todo work.head keeps.todo) (ap is_calm state))
      (λ k x d h. rest_stopped r.todo k x (rest_has j k r.todo work.head d) h) keeps.each)
      (problem_target r.wanted r.target j (Some Problem.FailedStart) s.core.nodes keeps.waits))
      work.good
  lawful_rebalance stage m keeps (RebalanceStep.acts _ _ RebalanceAct.closes) = re_closes r.found r.wanted (result r.found (has_refused r)) keeps.waits keeps

-- The begin ---------------------------------------------------------------------------

pub asked_up : (n : Node) → is_asked n ≡ true → (n.state ≡ Started) × (n.serial ≢ 0)
asked_up n h =
    let two = and_both (is_started n.state) (not (n.serial == 0)) h in
    let t1 = two.1 in
    (is_Started n.state two.0, grind (arith, nat_tests))

begun_each : (nodes : List Node) (ks : List ℕ) → ((k : ℕ) (n : Node) → has ks k ≡ true → node_at k nodes ≡ Some n → n.state ≡ Started) → Each (λ k x. is_calm x) nodes → Each (asking_state ks []) nodes
begun_each nodes ks up each k n at =
    let by_test : (b : Bool) → has ks k ≡ b → cond b (is_started n.state) (is_calm n.state) ≡ true =
    λ b. elim b as (λ b. has ks k ≡ b → cond b (is_started n.state) (is_calm n.state) ≡ true) [
      | true ↦ λ h. ap is_started (up k n h at)
      | false ↦ λ h. each k n at
    ] in
    by_test (has ks k) refl

fits_begun : (s : State) (kind : OpKind) (node : Node) (wanted : Option Reqs) → kind ≡ kind_by wanted → TargetFits wanted node.serial s.core.nodes → Good s.next_serial s.core.nodes s.activities None →
    OperationFits (Some (begun_with s.core kind node wanted)) s.core.nodes
fits_begun s kind node wanted is target good =
    let ks = serials_of (those is_asked s.core.nodes) in
    let found : (k : ℕ) → has (reverse ks) k ≡ true → (n : Node) × (node_at k s.core.nodes ≡ Some n) × (is_asked n ≡ true) =
    λ k h. those_found 0 is_asked s.core.nodes k good.serials (sym (has-reverse ks k) ∙ h) in
    fits_ask_on (record (job_of kind node) { wanted = wanted }) is (reverse ks) s.core.nodes
    (Distinct-reverse ks (serials_distinct 0 is_asked s.core.nodes good.serials)) tt
    (let by_test : (b : Bool) → has (reverse ks) 0 ≡ b → b ≡ false =
    λ b. elim b as (λ b. has (reverse ks) 0 ≡ b → b ≡ false) [
      | true ↦ λ h.
          let f = found 0 h in
          let own = own_serial 0 f.0 s.core.nodes f.1 in
          absurd ((asked_up f.0 f.2).1 own)
      | false ↦ λ h. refl
    ] in by_test (has (reverse ks) 0) refl)
    refl (λ k h. refl)
    (begun_each s.core.nodes (reverse ks)
    (λ k n h g. let f = found k h in let same : f.0 ≡ n = let q = f.1 in cc in subst (λ (z : Node). z.state ≡ Started) same (asked_up f.0 f.2).0)
    good.fits)
    target

pub fits_begun_rebalance : (s : State) (node : Node) → node_at node.serial s.core.nodes ≡ Some node → node.state ≡ NotStarted → Good s.next_serial s.core.nodes s.activities None →
    OperationFits (Some (begun_rebalance s.core node)) s.core.nodes
fits_begun_rebalance s node at e good = fits_begun s OpKind.Rebalance node None refl (node, at, e) good

pub fits_begun_change : (s : State) (node : Node) (wanted : Reqs) → node_at node.serial s.core.nodes ≡ Some node → node.state ≡ Started → node.serial ≢ 0 → Good s.next_serial s.core.nodes s.activities None →
    OperationFits (Some (begun_change s.core node wanted)) s.core.nodes
fits_begun_change s node wanted at e up good = fits_begun s OpKind.Change node (Some wanted) refl (node, at, ap is_changing e, up) good
