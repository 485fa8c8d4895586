-- A plan that was found fits until it is used, and then the target holds its part: what each stage of a rebalance keeps.
use Rattle.std.proofs.Common.{ℕ, ◌≡◌, ◌≢◌, ◌==◌, inl, inr, Bool, true, false, not, cond, List, [], ◌∷◌, ◌++◌, map, Option, Some, None, refl, sym, ap, ap₂, ◌∙◌, subst, arith, reverse}
use Rattle.std.specs.List.{AllZip}
use Rattle.std.specs.Option.{option_map}
use Rattle.std.proofs.lemmas.Bool.{cases_eq}
use Rattle.std.proofs.lemmas.Bool.Decides.{nat_tests}
use Rattle.resource_reqs.specs.Resources.{Res, Reqs, IsAssignment, Whole}
use Rattle.resource_reqs.specs.Spelling.{IsAnswer}
use Rattle.resource_reqs.specs.Spelling.Answer.{assignment, no_fit, spent}
use Rattle.resource_reqs.proofs.Answering.{plan_is}
use Rattle.pnp_labels.specs.declared.words.Minor.{Minor}
use Rattle.pnp_labels.specs.declared.states.DevState.{DevState}
use Rattle.pnp_labels.specs.declared.states.DevState.TheVariants as states
use Rattle.pnp_labels.specs.declared.label.OpKind.{OpKind}
use Rattle.pnp_labels.specs.declared.label.Label.{Label}
use Rattle.pnp_model.specs.Cores.{is_node, node_at, serials_of, with_problem, with_state}
use Rattle.pnp_model.specs.Frames.{asked, ended, held_by, is_beside, rest}
use Rattle.pnp_model.specs.Keyed.{changed_first, those}
use Rattle.pnp_model.specs.Records.{Core, Driver, Found, Node, Settings, State, Step, Job, Stage, Course, course_of, Walk}
use Rattle.pnp_model.specs.Runs.{Entry, Goes}
use Rattle.pnp_model.specs.Runs.Entry.{Happens, Did, Declines}
use Rattle.pnp_model.specs.Tests.{has}
use Rattle.pnp_model.specs.Trees.{stands_up}
use Rattle.pnp_laws.specs.Effects.{AnswerEffect, OpEffect, RangeEffect, SameWork, begun}
use Rattle.pnp_laws.specs.Holdings.{KeepsReqs, has_plan, WholeAt}
use Rattle.pnp_laws.specs.Plans.{IsPlanned, PlanFits, PlanKept, PlanKeptIn, StagePlan, moving_reqs}
use Rattle.pnp_laws.specs.Reached.{IsReached}
use Rattle.pnp_laws.proofs.Declined.{idle_after}
use Rattle.pnp_laws.proofs.EffectsOf.{effect_goes}
use Rattle.pnp_laws.proofs.EffectsOfOperations.{rebalance_step_is}
use Rattle.pnp_laws.proofs.EventChanges.{ranges_stay}
use Rattle.pnp_laws.proofs.Lookups.{map_from, node_changed_other, node_changed_same, node_from, own_serial}
use Rattle.pnp_laws.proofs.Reaching.{kept}
use Rattle.pnp_laws.proofs.Stages.{OperationStep, RebalanceAct, RebalanceStep, operation_step, own_step}
use Rattle.pnp_model.specs.Events as ev
use Rattle.pnp_model.specs.Rebalances as re
use Rattle.pnp_laws.proofs.EffectsOfOperations.{begun_work}
use Rattle.pnp_laws.proofs.Reached.{reached_is_good}
use Rattle.pnp_laws.specs.Kept.{IsGood, OperationFits}
use Rattle.pnp_model.specs.Jobs.{JobMove, Beside, stands, begins, each_gets, job_of}
use Rattle.pnp_model.specs.Machine.{job_lifted}
use Rattle.pnp_model.specs.Walks.{after}

-- Requirements stay, and so do the holdings where states and problems change ---------------

reqs_map : (f : Node → Node) (o : Option Node) → ((n : Node) → (f n).reqs ≡ n.reqs) → re.reqs_of (option_map f o) ≡ re.reqs_of o
reqs_map f None keeps = refl
reqs_map f (Some n) keeps = keeps n

reqs_changed : (j k : ℕ) (f : Node → Node) (nodes : List Node) → KeepsReqs f → re.reqs_of (node_at k (changed_first (is_node j) f nodes)) ≡ re.reqs_of (node_at k nodes)
reqs_changed j k f nodes keeps =
    elim (cases_eq j k) [
      | inl e ↦
          subst (λ (i : ℕ). re.reqs_of (node_at k (changed_first (is_node i) f nodes)) ≡ re.reqs_of (node_at k nodes)) (sym e)
          (ap re.reqs_of (node_changed_same k f nodes keeps.serial) ∙ reqs_map f (node_at k nodes) keeps.reqs)
      | inr d ↦ ap re.reqs_of (node_changed_other j k f nodes keeps.serial d)
    ]

pub all_reqs_changed : (j : ℕ) (f : Node → Node) (nodes : List Node) (ks : List ℕ) → KeepsReqs f →
    map (λ k. re.reqs_of (node_at k (changed_first (is_node j) f nodes))) ks ≡ map (λ k. re.reqs_of (node_at k nodes)) ks
all_reqs_changed j f nodes [] keeps = refl
all_reqs_changed j f nodes (k ∷ ks) keeps =
    ap (λ (x : Reqs). x ∷ map (λ i. re.reqs_of (node_at i (changed_first (is_node j) f nodes))) ks) (reqs_changed j k f nodes keeps)
    ∙ ap (λ (xs : List Reqs). re.reqs_of (node_at k nodes) ∷ xs) (all_reqs_changed j f nodes ks keeps)

-- what others hold, where a device changes in other parts
pub beside_changed : (j : ℕ) (f : Node → Node) (movers : List ℕ) (nodes : List Node) → ((x : Node) → (f x).serial ≡ x.serial) → ((x : Node) → (f x).holds ≡ x.holds) →
    held_by (those (is_beside movers) (changed_first (is_node j) f nodes)) ≡ held_by (those (is_beside movers) nodes)
beside_changed j f movers [] keeps holds = refl
beside_changed j f movers (n ∷ ns) keeps holds =
    let more = beside_changed j f movers ns keeps holds in
    let same_test : is_beside movers (f n) ≡ is_beside movers n = ap (λ (i : ℕ). not (has movers i)) (keeps n) in
    let h = holds n in
    let by_two : (a b : Bool) → held_by (those (is_beside movers) (cond a (f n ∷ ns) (n ∷ changed_first (is_node j) f ns))) ≡ held_by (cond b (n ∷ those (is_beside movers) ns) (those (is_beside movers) ns)) → held_by (those (is_beside movers) (cond a (f n ∷ ns) (n ∷ changed_first (is_node j) f ns))) ≡ held_by (cond b (n ∷ those (is_beside movers) ns) (those (is_beside movers) ns)) =
    λ a b e. e in
    grind (arith)

pub keeps_state : (y : DevState) → KeepsReqs (with_state y)
keeps_state y = record { serial = λ n. refl; reqs = λ n. refl }

-- a change that keeps all but state and problem
pub record KeepsHeld (f : Node → Node) : Type 0 where
  pub reqs : KeepsReqs f
  pub holds : (n : Node) → (f n).holds ≡ n.holds

held_state : (y : DevState) → KeepsHeld (with_state y)
held_state y = record { reqs = keeps_state y; holds = λ n. refl }

fits_changed : (r : Job) (j : ℕ) (f : Node → Node) (reserved : List Res) (nodes : List Node) → KeepsHeld f → PlanFits r reserved nodes → PlanFits r reserved (changed_first (is_node j) f nodes)
fits_changed r j f reserved nodes keeps h =
    let same : moving_reqs r (changed_first (is_node j) f nodes) ≡ moving_reqs r nodes =
    ap₂ (λ (x : Reqs) (xs : List Reqs). re.reqs_or r.wanted x ∷ xs) (reqs_changed j r.target f nodes keeps.reqs) (all_reqs_changed j f nodes (re.others r) keeps.reqs) in
    subst (λ (xs : List Reqs). IsAssignment (reserved ++ held_by (those (is_beside (re.movers r)) (changed_first (is_node j) f nodes))) xs (re.plan_of r.found)) (sym same)
    (subst (λ (xs : List Res). IsAssignment (reserved ++ xs) (moving_reqs r nodes) (re.plan_of r.found)) (sym (beside_changed j f (re.movers r) nodes keeps.reqs.serial keeps.holds)) h)

pub whole_changed : (k j : ℕ) (f : Node → Node) (nodes : List Node) → KeepsHeld f → WholeAt k nodes → WholeAt k (changed_first (is_node j) f nodes)
whole_changed k j f nodes keeps h m g =
    elim (node_from j k f nodes m keeps.reqs.serial g) [
      | inl (e, (y, q, r)) ↦
          subst (λ (x : List Res). Whole m.reqs x) (sym (ap (λ (z : Node). z.holds) r ∙ keeps.holds y)) (subst (λ (x : Reqs). Whole x y.holds) (sym (ap (λ (z : Node). z.reqs) r ∙ keeps.reqs.reqs y)) (h y q))
      | inr (d, q) ↦ h m q
    ]

-- The parts of a plan ---------------------------------------------------------------------------

-- each mover's part is whole for what `reqs` asks of it
part_whole : (reqs : ℕ → Reqs) (k : ℕ) (js : List ℕ) (plan : List (List Res)) (held : List Res) → AllZip Whole (map reqs js) plan → has js k ≡ true → Whole (reqs k) (re.part_for k js plan held)
part_whole reqs k [] plan held all h = absurd (cc)
part_whole reqs k (j ∷ js) [] held all h = absurd all
part_whole reqs k (j ∷ js) (holds ∷ plan) held all h =
    elim (cases_eq j k) [
      | inl e ↦
          let same : re.part_for k (j ∷ js) (holds ∷ plan) held ≡ holds = grind (arith, nat_tests) in
          subst (λ (x : List Res). Whole (reqs k) x) (sym same) (subst (λ (i : ℕ). Whole (reqs i) holds) e all.0)
      | inr d ↦
          let same : re.part_for k (j ∷ js) (holds ∷ plan) held ≡ re.part_for k js plan held = grind (arith, nat_tests) in
          subst (λ (x : List Res). Whole (reqs k) x) (sym same) (part_whole reqs k js plan held all.1 (grind (arith, nat_tests)))
    ]

-- the part of the target is whole for what is wanted, and that of another mover for its own requirements
moved_whole : (own want : Reqs) (target k : ℕ) (reqs : ℕ → Reqs) (js : List ℕ) (plan : List (List Res)) (held : List Res) → AllZip Whole (own ∷ map reqs js) plan → (target ≡ k → own ≡ want) → (target ≢ k → reqs k ≡ want)
    → has (target ∷ js) k ≡ true → Whole want (re.part_for k (target ∷ js) plan held)
moved_whole own want target k reqs js [] held all first rest h = absurd all
moved_whole own want target k reqs js (holds ∷ plan) held all first rest h =
    elim (cases_eq target k) [
      | inl e ↦
          let same : re.part_for k (target ∷ js) (holds ∷ plan) held ≡ holds = grind (arith, nat_tests) in
          subst (λ (x : List Res). Whole want x) (sym same) (subst (λ (x : Reqs). Whole x holds) (first e) all.0)
      | inr d ↦
          let same : re.part_for k (target ∷ js) (holds ∷ plan) held ≡ re.part_for k js plan held = grind (arith, nat_tests) in
          subst (λ (x : List Res). Whole want x) (sym same) (subst (λ (x : Reqs). Whole x (re.part_for k js plan held)) (rest d) (part_whole reqs k js plan held all.1 (grind (arith, nat_tests))))
    ]

-- what a node requires from the commit on
target_after : (wanted : Option Reqs) (target : ℕ) (n : Node) → target ≡ n.serial → re.reqs_or wanted n.reqs ≡ re.reqs_after wanted target n
target_after None target n e = refl
target_after (Some wanted) target n e = let same : (n.serial == target) ≡ true = grind (arith, nat_tests) in sym (ap (λ (b : Bool). cond b wanted n.reqs) same)

pub other_after : (wanted : Option Reqs) (target : ℕ) (n : Node) → target ≢ n.serial → re.reqs_after wanted target n ≡ n.reqs
other_after None target n d = refl
other_after (Some wanted) target n d = let other : (n.serial == target) ≡ false = grind (arith, nat_tests) in ap (λ (b : Bool). cond b wanted n.reqs) other

-- the part of a mover that is there
pub mover_whole : (r : Job) (reserved : List Res) (nodes : List Node) (k : ℕ) (n : Node) → PlanFits r reserved nodes → node_at k nodes ≡ Some n → has (re.movers r) k ≡ true
    → Whole (re.reqs_after r.wanted r.target n) (re.committed r.wanted r.target (re.movers r) (re.plan_of r.found) n).holds
mover_whole r reserved nodes k n fits at h =
    let own = own_serial k n nodes at in
    let want = re.reqs_after r.wanted r.target n in
    let here : re.reqs_of (node_at k nodes) ≡ n.reqs = ap re.reqs_of at in
    let part =
    moved_whole (re.reqs_or r.wanted (re.reqs_of (node_at r.target nodes))) want r.target k (λ i. re.reqs_of (node_at i nodes)) (re.others r) (re.plan_of r.found) n.holds fits.whole
    (λ e. ap (λ (i : ℕ). re.reqs_or r.wanted (re.reqs_of (node_at i nodes))) e ∙ ap (re.reqs_or r.wanted) here ∙ target_after r.wanted r.target n (e ∙ sym own))
    (λ d. here ∙ sym (other_after r.wanted r.target n (λ z. d (z ∙ own)))) h in
    subst (λ (i : ℕ). Whole want (re.part_for i (re.movers r) (re.plan_of r.found) n.holds)) (sym own) part

target_whole : (r : Job) (reserved : List Res) (nodes : List Node) → PlanFits r reserved nodes → WholeAt r.target (map (re.committed r.wanted r.target (re.movers r) (re.plan_of r.found)) nodes)
target_whole r reserved nodes fits m g =
    let from = map_from r.target (re.committed r.wanted r.target (re.movers r) (re.plan_of r.found)) nodes m (λ x. refl) g in
    subst (λ (z : Node). Whole z.reqs z.holds) (sym from.2) (mover_whole r reserved nodes r.target from.0 fits from.1 (grind (arith, nat_tests)))

-- What comes next ---------------------------------------------------------------------------------

plan_in : (p : Job) (reserved : List Res) (nodes : List Node) → course_of p.kind ≡ Course.Rebalancing → StagePlan p p.stage reserved nodes → PlanKept (Some p) reserved nodes
plan_in p reserved nodes is h = subst (λ (x : Course). PlanKeptIn x p reserved nodes) (sym is) h

module _ (r : Job) (course : course_of r.kind ≡ Course.Rebalancing) (reserved : List Res) (nodes : List Node) where
  cancelled_on : (wanted : Option Reqs) → has_plan r.found ≡ false → PlanKept (Some (stands r [] (re.cancelled wanted))) reserved nodes
  cancelled_on None h = plan_in (stands r [] Stage.Stuck) reserved nodes course h
  cancelled_on (Some wanted) h = plan_in (stands r [] Stage.Ending) reserved nodes course (λ e. absurd (cc))

  cancels_on : (ks : List ℕ) → has_plan r.found ≡ false → PlanKept (Some (re.cancel_on r ks)) reserved nodes
  cancels_on [] h = cancelled_on r.wanted h
  cancels_on (k ∷ ks) h = plan_in (re.cancel_on r (k ∷ ks)) reserved nodes course h

  searches_on : (refused : Bool) → has_plan r.found ≡ false → PlanKept (Some (cond refused (re.cancel_on r r.agreed) (stands r [] Stage.Searching))) reserved nodes
  searches_on false h = plan_in (stands r [] Stage.Searching) reserved nodes course h
  searches_on true h = cancels_on r.agreed h

  asks_on : (ks : List ℕ) → has_plan r.found ≡ false → PlanKept (Some (re.ask_on r ks)) reserved nodes
  asks_on [] h = searches_on (re.has_refused r) h
  asks_on (k ∷ ks) h = plan_in (re.ask_on r (k ∷ ks)) reserved nodes course h

  stops_on : (ks : List ℕ) → PlanFits r reserved nodes → PlanKept (Some (re.stop_on r ks)) reserved nodes
  stops_on [] h = plan_in (re.stop_on r []) reserved nodes course h
  stops_on (k ∷ ks) h = plan_in (re.stop_on r (k ∷ ks)) reserved nodes course h

  restarts_on : (ks : List ℕ) → WholeAt r.target nodes → PlanKept (Some (each_gets Minor.Start Stage.Restarting r ks (stands r [] Stage.Ending))) reserved nodes
  restarts_on [] h = plan_in (stands r [] Stage.Ending) reserved nodes course (λ e. h)
  restarts_on (k ∷ ks) h = plan_in (begins r (k ∷ ks) Stage.Restarting Minor.Start) reserved nodes course h

-- The stages ----------------------------------------------------------------------------------------

module _ (s : State) (r : Job) (course : course_of r.kind ≡ Course.Rebalancing) where
  searches : (budget : ℕ) (found : Found) → IsAnswer (re.group_problem s.core r).fixed (re.group_problem s.core r).movers budget found → IsPlanned (job_lifted s (re.searched s.core r found)).state
  searches budget (assignment plan) answer =
      stops_on (record r { found = assignment plan }) course s.core.reserved s.core.nodes (reverse r.agreed) (plan_is (re.group_problem s.core r).fixed (re.group_problem s.core r).movers budget plan answer)
  searches budget no_fit answer = cancels_on (record r { found = no_fit }) course s.core.reserved s.core.nodes r.agreed refl
  searches budget spent answer = cancels_on (record r { found = spent }) course s.core.reserved s.core.nodes r.agreed refl

  closes_moved : (label : Label) (up : Bool) → IsPlanned (job_lifted s (record { label = label; core = s.core; frame = r; beside = cond up Beside.OverStart Beside.Over })).state
  closes_moved label true = tt
  closes_moved label false = tt

  closes : (label : Label) (found : Found) (wanted : Option Reqs) → IsPlanned (job_lifted s (record { label = label; core = s.core; frame = r; beside = re.over s.core r found wanted })).state
  closes label (assignment plan) None = closes_moved label (stands_up s.core.nodes r.target)
  closes label no_fit None = tt
  closes label spent None = tt
  closes label (assignment plan) (Some wanted) = tt
  closes label no_fit (Some wanted) = tt
  closes label spent (Some wanted) = tt

  planned : (stage : Stage) (m : JobMove) → StagePlan r stage s.core.reserved s.core.nodes → RebalanceStep s.core r stage m → IsPlanned (job_lifted s m).state
  planned stage m h (RebalanceStep.agrees node w e good) = asks_on (record r { agreed = node.serial ∷ r.agreed }) course _ _ (rest r.todo) h
  planned stage m h (RebalanceStep.refuses node w e bad) = plan_in (re.answers r node true) _ _ course h
  planned stage m h (RebalanceStep.takes_back node w e) = asks_on r course _ _ (those (re.is_not_above s.core.nodes node.serial) (rest r.todo)) h
  planned stage m h (RebalanceStep.acts _ _ (RebalanceAct.searches found budget answer)) = searches budget found answer
  planned stage m h (RebalanceStep.cancels node w e) = cancels_on r course _ _ (rest r.todo) h
  planned stage m h (RebalanceStep.acts _ _ RebalanceAct.sticks) = plan_in (stands r [] Stage.Ending) _ _ course (λ e. absurd (cc))
  planned stage m h (RebalanceStep.stops node w e) = stops_on r course _ _ (rest r.todo) (fits_changed r node.serial (with_state states.Stopped) s.core.reserved s.core.nodes (held_state states.Stopped) h)
  planned stage m h (RebalanceStep.acts _ _ RebalanceAct.commits) = restarts_on r course _ _ (re.startable s.core.nodes r.agreed) (target_whole r s.core.reserved s.core.nodes h)
  planned stage m h (RebalanceStep.restarts node w e good) =
      restarts_on r course _ _ (re.startable (ended s.core node Minor.Start false).nodes (rest r.todo)) (whole_changed r.target node.serial (with_state states.Started) s.core.nodes (held_state states.Started) h)
  planned stage m h (RebalanceStep.fails node w e bad) = plan_in (stands r r.todo Stage.Failed) _ _ course (whole_changed r.target node.serial (with_state node.state) s.core.nodes (held_state node.state) h)
  planned stage m h (RebalanceStep.acts _ _ (RebalanceAct.failed node first)) =
      restarts_on r course _ _ (re.startable s.core.nodes (rest r.todo))
      (whole_changed r.target node.serial (with_problem _) s.core.nodes (record { reqs = record { serial = λ n. refl; reqs = λ n. refl }; holds = λ n. refl }) h)
  planned stage m h (RebalanceStep.acts _ _ RebalanceAct.closes) = closes (Label.End r.kind r.path (re.result r.found (re.has_refused r))) r.found r.wanted

-- a request that gets an answer changes no plan
walked_stage : (r : Job) (walk : Option Walk) (stage : Stage) (reserved : List Res) (nodes : List Node) → StagePlan r stage reserved nodes → StagePlan (record r { walk = walk }) stage reserved nodes
walked_stage r walk Stage.Asking reserved nodes h = h
walked_stage r walk _ reserved nodes h = h

walked_plan : (o : Job) (walk : Option Walk) (reserved : List Res) (nodes : List Node) → PlanKept (Some o) reserved nodes → PlanKept (Some (record o { walk = walk })) reserved nodes
walked_plan o walk reserved nodes h = by_course (course_of o.kind) h
  where
    by_course : (course : Course) → PlanKeptIn course o reserved nodes → PlanKeptIn course (record o { walk = walk }) reserved nodes
    by_course Course.Rebalancing h = walked_stage o walk o.stage reserved nodes h
    by_course _ h = tt

planned_operation : (s : State) (o : Job) (step : Step) → course_of o.kind ≡ Course.Rebalancing → PlanKept (Some o) s.core.reserved s.core.nodes → OperationStep s o step → IsPlanned step.state
planned_operation s o step course h (OperationStep.asks node w a) = walked_plan o (Some (asked s.core node w).walk) s.core.reserved s.core.nodes h
planned_operation s o step course h (OperationStep.rebalances stage m own is x) =
    planned s o own stage m (subst (λ (y : Stage). StagePlan o y s.core.reserved s.core.nodes) is (subst (λ (x : Course). PlanKeptIn x o s.core.reserved s.core.nodes) own h)) x
planned_operation s o step course h (OperationStep.removes stage m own is x) = absurd (cc)
planned_operation s o step course h (OperationStep.surprises stage m own is x) = absurd (cc)
planned_operation s o step course h (OperationStep.finishes stage m own is x) = absurd (cc)

-- Steps and events ------------------------------------------------------------------------------------

-- of another course
other_plan : (course : Course) (p : Job) (reserved : List Res) (nodes : List Node) → course_of p.kind ≡ course → (course ≡ Course.Rebalancing → ⊥) → PlanKept (Some p) reserved nodes
other_plan course p reserved nodes is other = subst (λ (x : Course). PlanKeptIn x p reserved nodes) (sym is) (by_course course other)
  where
    by_course : (course : Course) → (course ≡ Course.Rebalancing → ⊥) → PlanKeptIn course p reserved nodes
    by_course Course.Rebalancing other = absurd (other refl)
    by_course _ other = tt

-- an operation that begins has found nothing yet
begun_with_plan : (c : Core) (kind : OpKind) (node : Node) (wanted : Option Reqs) → course_of kind ≡ Course.Rebalancing → PlanKept (Some (re.begun_with c kind node wanted)) c.reserved c.nodes
begun_with_plan c kind node wanted course = asks_on (record (job_of kind node) { wanted = wanted }) course c.reserved c.nodes (reverse (serials_of (those re.is_asked c.nodes))) refl

begun_plan : (s : State) (kind : OpKind) (node : Node) → PlanKept (Some (begun s kind node)) s.core.reserved s.core.nodes
begun_plan s OpKind.Rebalance node = begun_with_plan s.core OpKind.Rebalance node None refl
begun_plan s OpKind.Change node = begun_with_plan s.core OpKind.Change node (Some _) refl
begun_plan s OpKind.Disable node = other_plan Course.Removing _ _ _ (ap course_of (begun_work s OpKind.Disable node).0) (λ e. cc)
begun_plan s OpKind.Eject node = other_plan Course.Removing _ _ _ (ap course_of (begun_work s OpKind.Eject node).0) (λ e. cc)
begun_plan s OpKind.Surprise node = other_plan Course.Surprising _ _ _ (ap course_of (begun_work s OpKind.Surprise node).0) (λ e. cc)
begun_plan s OpKind.Finish node = tt

planned_as : (t : State) (o : Option Job) (reserved : List Res) (nodes : List Node) → t.operation ≡ o → t.core.reserved ≡ reserved → t.core.nodes ≡ nodes → PlanKept o reserved nodes → IsPlanned t
planned_as t o reserved nodes a b c h =
    subst (λ (x : Option Job). PlanKept x t.core.reserved t.core.nodes) (sym a)
    (subst (λ (x : List Res). PlanKept o x t.core.nodes) (sym b) (subst (λ (x : List Node). PlanKept o reserved x) (sym c) h))

stays_plan : (s t : State) {entry : Entry} (o : Option Job) → s.operation ≡ o → t.operation ≡ s.operation → t.core.nodes ≡ s.core.nodes → RangeEffect s entry t → IsPlanned s → IsPlanned t
stays_plan s t None none now nodes ranges h = planned_as t None t.core.reserved t.core.nodes (now ∙ none) refl refl tt
stays_plan s t (Some o) runs now nodes ranges h = planned_as t s.operation s.core.reserved s.core.nodes now (ranges_stay s t o runs ranges) nodes h

-- a rebalance goes on by its list of steps; what goes on and is none becomes none
goes_plan : (settings : Settings) (s : State) (label : Label) (t : State) (o p : Job) → IsGood s → s.operation ≡ Some o → t.operation ≡ Some p → SameWork o p → Goes settings s (Did label) t → IsPlanned s → IsPlanned t
goes_plan settings s label t o p good runs now work goes h = by_course (course_of o.kind) refl
  where
    step : Step
    step = record { label = label; state = t }

    by_course : (course : Course) → course_of o.kind ≡ course → IsPlanned t
    by_course Course.Rebalancing course =
        planned_operation s o step course (subst (λ (x : Option Job). PlanKept x s.core.reserved s.core.nodes) runs h)
        (own_step s o step (subst (λ (x : Option Job). OperationFits x s.core.nodes) runs good.fits) (rebalance_step_is s o step course (operation_step settings s o step runs goes)))
    by_course Course.Removing course = planned_as t (Some p) t.core.reserved t.core.nodes now refl refl (other_plan Course.Removing p _ _ (ap course_of work.kind ∙ course) (λ e. cc))
    by_course Course.Surprising course = planned_as t (Some p) t.core.reserved t.core.nodes now refl refl (other_plan Course.Surprising p _ _ (ap course_of work.kind ∙ course) (λ e. cc))
    by_course Course.Finishing course = planned_as t (Some p) t.core.reserved t.core.nodes now refl refl (other_plan Course.Finishing p _ _ (ap course_of work.kind ∙ course) (λ e. cc))

event_plan : (s : State) (label : Label) (t : State) {entry : Entry} → RangeEffect s entry t → AnswerEffect s label t → IsPlanned s → IsPlanned t
event_plan s label t ranges (AnswerEffect.stays word nodes acts now) h = stays_plan s t s.operation refl now nodes ranges h
event_plan s label t ranges (AnswerEffect.answers word nodes k a ok at acts now) h = stays_plan s t s.operation refl now nodes ranges h
event_plan s label t ranges (AnswerEffect.answered word nodes acts ok o runs now) h =
    planned_as t (Some (ev.completed (ev.answer_of ok) o)) s.core.reserved s.core.nodes now (ranges_stay s t o runs ranges) nodes
    (walked_plan o (option_map (λ w. after w (ev.answer_of ok)) o.walk) s.core.reserved s.core.nodes (subst (λ (x : Option Job). PlanKept x s.core.reserved s.core.nodes) runs h))

step_plan : (settings : Settings) (s : State) (label : Label) (t : State) → OpEffect s label t → IsGood s → Goes settings s (Did label) t → IsPlanned s → IsPlanned t
step_plan settings s label t (OpEffect.idles none now prints) good goes h = planned_as t None t.core.reserved t.core.nodes now refl refl tt
step_plan settings s label t (OpEffect.begins kind node none alone at fits is) good goes h =
    subst (λ (x : Step). IsPlanned x.state) (sym is) (begun_plan s kind node)
step_plan settings s label t (OpEffect.goes o p runs now work prints) good goes h = goes_plan settings s label t o p good runs now work goes h
step_plan settings s label t (OpEffect.ends o result runs now prints by over) good goes h = planned_as t None t.core.reserved t.core.nodes now refl refl tt

planned_goes : (settings : Settings) (s : State) (entry : Entry) (t : State) → IsGood s → IsPlanned s → Goes settings s entry t → IsPlanned t
planned_goes settings s (Happens event label) t good h goes = let effect = effect_goes settings s (Happens event label) t goes in event_plan s label t effect.ranges effect.operation h
planned_goes settings s (Declines label) t good h goes = planned_as t None t.core.reserved t.core.nodes (idle_after s label t goes) refl refl tt
planned_goes settings s (Did label) t good h goes = step_plan settings s label t (effect_goes settings s (Did label) t goes).operation good goes h

pub reached_is_planned : (settings : Settings) (rack : List Driver) (s : State) → IsReached settings rack s → IsPlanned s
reached_is_planned settings rack s reached = kept IsPlanned settings rack (λ old entry new before h goes. planned_goes settings old entry new (reached_is_good settings rack old before) h goes) tt s reached
