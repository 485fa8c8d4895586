-- Each task but a join lowers what is still to begin, to do, or to answer.
use Rattle.std.proofs.Common.{ℕ, drop, ◌+◌, ◌*◌, ◌<◌, ◌≤◌, ◌≡◌, ◌≢◌, ◌==◌, ◌⊎◌, inl, inr, Bool, true, false, not, ◌&&◌, ◌||◌, cond, List, [], ◌∷◌, ◌++◌, length, Option, Some, None, refl, sym, ap, ◌∙◌, subst, arith, reverse}
use Rattle.std.specs.List.{list_any, slice_get}
use Rattle.std.proofs.lemmas.Bool.{cases_eq}
use Rattle.std.proofs.lemmas.Bool.Decides.{nat_tests}
use Rattle.std.proofs.lemmas.List.{length-reverse}
use Rattle.resource_reqs.specs.Resources.{Reqs}
use Rattle.pnp_model.specs.Keyed.{those}
use Rattle.pnp_model.specs.Tests.{is_surprise_removed, is_surprise_task}
use Rattle.pnp_model.specs.Records.{Node, Task, Activity, State, Step, Duty, Job, Course, course_of}
use Rattle.pnp_model.specs.Cores.{node_at, with_problem, serials_of}
use Rattle.pnp_model.specs.States.{drop_task, is_in_world}
use Rattle.pnp_model.specs.Starts.{adding}
use Rattle.pnp_model.specs.Tasks.{is_surprise_of, is_gone, gone_or_listed, install, begin}
use Rattle.pnp_model.specs.Machine.{is_born}
use Rattle.pnp_labels.specs.declared.label.Label.{Label}
use Rattle.pnp_labels.specs.declared.label.OpKind.{OpKind}
use Rattle.pnp_laws.specs.Kept.{Ascending}
use Rattle.pnp_laws.specs.Words.{IsNoJoin}
use Rattle.pnp_laws.proofs.Lookups.{own_serial}
use Rattle.pnp_laws.proofs.Closures.{length_serials}
use Rattle.pnp_laws.proofs.DriverNames.{chosen_named}
use Rattle.pnp_laws.proofs.IdleSteps.{First, TaskStep, gone_is}
use Rattle.pnp_laws.proofs.Measures.{Falls, falls_coarse, coarse_by, tasks_cost, tasks_pushed, duty_cost, sum, sum_entered, phase_cost, is_open, is_target, target_in, born_in, operation_cost, cost_in, SameBirths, births_same, births_changed, weight_in, weight_less}
use Rattle.pnp_laws.proofs.EffectsOfOperations.{begun_work}
use Rattle.pnp_laws.proofs.Weights.{Lighter, found_drop, lighter_same, node_weight, serial_in, state_weight, told_weight, weigh_drop, weigh_less}
use Rattle.pnp_laws.proofs.MeasureOps.{those_shorter, Lowers, lower_so}
use Rattle.pnp_laws.proofs.MeasureStages.{ask_most, begun_target}
use Rattle.pnp_laws.proofs.MeasureTasks.{open_dropped, dropped_cost, open_pushed, no_cost, adding_cost}
use Rattle.pnp_laws.proofs.Truths.{and_both, both_true, not_true, or_right}
use Rattle.pnp_model.specs.Rebalances as re
use Rattle.pnp_model.specs.Surprises as su
use Rattle.pnp_model.specs.Jobs.{job_of}

-- the first task is dropped, and what follows it costs less
task_falls : (s t : State) (task : Task) → slice_get s.tasks 0 ≡ Some task → SameBirths s.core.nodes t.core.nodes → Lighter s.core.nodes t.core.nodes → t.world ≡ s.world → t.tasks ≡ drop 1 s.tasks → ((k : ℕ) → is_open t.tasks t.operation k ≡ true → is_open s.tasks s.operation k ≡ true) →
    sum (λ a. phase_cost (length (serials_of s.core.nodes)) a.phase) t.activities + operation_cost (born_in s) t.operation
    < duty_cost (length (serials_of s.core.nodes)) (born_in s task.serial) task.kind + (sum (λ a. phase_cost (length (serials_of s.core.nodes)) a.phase) s.activities + operation_cost (born_in s) s.operation) → Falls s t
task_falls s t task first same light world tasks opens less =
    let a = dropped_cost (length (serials_of s.core.nodes)) (born_in s) s.tasks task first in
    let b = ap (tasks_cost (length (serials_of s.core.nodes)) (born_in s)) tasks in
    falls_coarse s t (coarse_by s t same world light opens (omega arith))

begin_some : (n : ℕ) (b : Bool) (kind : OpKind) → 1 ≤ duty_cost n b (Duty.Begins kind)
begin_some n true OpKind.Surprise = omega arith
begin_some n false OpKind.Surprise = omega arith
begin_some n b _ = omega arith

duty_some : (n : ℕ) (b : Bool) (duty : Duty) → 1 ≤ duty_cost n b duty
duty_some n b Duty.Listing = omega arith
duty_some n b Duty.Starting = omega arith
duty_some n b (Duty.Begins kind) = begin_some n b kind

-- a task that is no surprise is dropped, and nothing follows
drops : (s t : State) (task : Task) → slice_get s.tasks 0 ≡ Some task → is_surprise_task task.kind ≡ false → SameBirths s.core.nodes t.core.nodes → Lighter s.core.nodes t.core.nodes → t.world ≡ s.world → t.tasks ≡ drop 1 s.tasks → t.activities ≡ s.activities → t.operation ≡ s.operation → Falls s t
drops s t task first kind same light world tasks acts op =
    let a = duty_some (length (serials_of s.core.nodes)) (born_in s task.serial) task.kind in
    let b = ap (λ (xs : List Activity). sum (λ a. phase_cost (length (serials_of s.core.nodes)) a.phase) xs) acts in
    let c = ap (operation_cost (born_in s)) op in
    task_falls s t task first same light world tasks
    (λ k h. open_dropped s.tasks task s.operation t.operation k first kind (ap (λ (o : Option Job). is_target o k) op)
    (ap (λ (ts : List Task). not (list_any (is_surprise_of k) ts) && not (is_target t.operation k)) (sym tasks) ∙ h)) (omega arith)

lowers_drop : (s : State) (label : Label) (task : Task) → slice_get s.tasks 0 ≡ Some task → is_surprise_task task.kind ≡ false → Lowers s (record { label = label; state = drop_task s })
lowers_drop s label task first kind = lower_so s _ (drops s (drop_task s) task first kind (births_same s.core.nodes s.core.nodes refl) (lighter_same s.core.nodes s.core.nodes refl) refl refl refl refl)

-- Listing ------------------------------------------------------------------------------------------------

-- where a child is gone
gone_falls : (s : State) (node child : Node) → s.operation ≡ None → is_gone s child ≡ true → node_at child.serial s.core.nodes ≡ Some child → Falls s (gone_or_listed s node (Some child)).state
gone_falls s node child none gone at =
    let t = (gone_or_listed s node (Some child)).state in
    let task : Task = record { kind = Duty.Begins OpKind.Surprise; serial = child.serial } in
    let three = and_both (not (is_surprise_removed child.state)) (not (is_in_world s.world child.born) && not (list_any (is_surprise_of child.serial) s.tasks)) gone in
    let two = and_both (not (is_in_world s.world child.born)) (not (list_any (is_surprise_of child.serial) s.tasks)) three.1 in
    let outside : is_in_world s.world child.born ≡ false = not_true (is_in_world s.world child.born) two.0 in
    let light : born_in s child.serial ≡ false = ap (is_born s.world) at ∙ outside in
    let target : is_target s.operation child.serial ≡ false = ap (λ (o : Option Job). is_target o child.serial) none in
    let was : is_open s.tasks s.operation child.serial ≡ true = ap (λ (b : Bool). not (list_any (is_surprise_of child.serial) s.tasks) && not b) target ∙ both_true (not (list_any (is_surprise_of child.serial) s.tasks)) true two.1 refl in
    let now : is_open t.tasks t.operation child.serial ≡ false = ap (λ (b : Bool). not b && not (is_target s.operation child.serial)) (own s.tasks) in
    let opens : (k : ℕ) → is_open t.tasks t.operation k ≡ true → is_open s.tasks s.operation k ≡ true = λ k h. open_pushed s.tasks task s.operation k h in
    let drop = found_drop child.state (λ e. let told = not_true (is_surprise_removed child.state) three.0 in let z = ap is_surprise_removed e in cc) in
    let lower : weight_in t child.serial + 3 ≤ weight_in s child.serial = own_weight (is_open t.tasks t.operation child.serial) (is_open s.tasks s.operation child.serial) now was drop in
    let a = weigh_drop (weight_in t) (weight_in s) child.serial 3 (serials_of s.core.nodes) (λ k. weight_less s t (lighter_same s.core.nodes s.core.nodes refl) k (opens k)) (serial_in s.core.nodes child.serial child at) lower in
    let b = tasks_pushed (length (serials_of s.core.nodes)) (born_in s) s.tasks task in
    let c : duty_cost (length (serials_of s.core.nodes)) (born_in s child.serial) (Duty.Begins OpKind.Surprise) ≡ 2 = ap (λ (x : Bool). duty_cost (length (serials_of s.core.nodes)) x (Duty.Begins OpKind.Surprise)) light in
    falls_coarse s t (omega arith)
  where
    own : (tasks : List Task) → list_any (is_surprise_of child.serial) (tasks ++ record { kind = Duty.Begins OpKind.Surprise; serial = child.serial } ∷ []) ≡ true
    own [] = grind (arith, nat_tests)
    own (t ∷ tasks) = or_right (is_surprise_of child.serial t) _ (own tasks)

    own_weight : (a b : Bool) → a ≡ false → b ≡ true → state_weight false child.state + 3 ≤ state_weight true child.state → node_weight a (node_at child.serial s.core.nodes) + 3 ≤ node_weight b (node_at child.serial s.core.nodes)
    own_weight a b e f less =
        subst (λ (x : Bool). node_weight x (node_at child.serial s.core.nodes) + 3 ≤ node_weight b (node_at child.serial s.core.nodes)) (sym e)
        (subst (λ (x : Bool). node_weight false (node_at child.serial s.core.nodes) + 3 ≤ node_weight x (node_at child.serial s.core.nodes)) (sym f)
        (subst (λ (o : Option Node). node_weight false o + 3 ≤ node_weight true o) (sym at) less))

-- Starting -------------------------------------------------------------------------------------------------

lowers_install : (s : State) (node : Node) (rank driver : ℕ) (drivers : List ℕ) → Lighter s.core.nodes (install s node rank driver drivers).state.core.nodes → First s Duty.Starting node.serial → s.operation ≡ None → length drivers ≤ 16 → Lowers s (install s node rank driver drivers)
lowers_install s node rank driver drivers light first none few =
    let a : Activity = record { serial = node.serial; phase = adding drivers } in
    let e = sum_entered (λ x. phase_cost (length (serials_of s.core.nodes)) x.phase) a s.activities in
    let l = adding_cost (length (serials_of s.core.nodes)) drivers in
    let t = (install s node rank driver drivers).state in
    lower_so s _ (task_falls s t _ first (births_changed node.serial (with_problem None) s.core.nodes _ refl (λ x. refl) (λ x. refl)) light refl refl
    (λ i h. open_dropped s.tasks _ s.operation s.operation i first refl refl h) (omega arith))

-- Beginning an operation -------------------------------------------------------------------------------------

begins : (course : Course) (s : State) (kind : OpKind) (node : Node) (o : Job) (task : Task) → course_of o.kind ≡ course → slice_get s.tasks 0 ≡ Some task → is_surprise_task task.kind ≡ false → ((k : ℕ) → target_in course o k ≡ false) → s.operation ≡ None →
    cost_in (born_in s) course o < duty_cost (length (serials_of s.core.nodes)) (born_in s task.serial) task.kind → Lowers s (begin s kind node o)
begins course s kind node o task is first surprise target none less =
    let d = no_cost (born_in s) s.operation none in
    let c = ap (λ (x : Course). cost_in (born_in s) x o) is in
    lower_so s _ (task_falls s (begin s kind node o).state task first (births_same s.core.nodes s.core.nodes refl) (lighter_same s.core.nodes s.core.nodes refl) refl refl
    (λ k h. open_dropped s.tasks task s.operation (Some o) k first surprise (ap (λ (x : Course). target_in x o k) is ∙ target k ∙ sym (ap (λ (x : Option Job). is_target x k) none)) h) (omega arith))

-- a rebalance or a change, of which each may ask all
lowers_rebalance : (s : State) (kind : OpKind) (node : Node) (wanted : Option Reqs) → course_of kind ≡ Course.Rebalancing → First s (Duty.Begins kind) node.serial → is_surprise_task (Duty.Begins kind) ≡ false → duty_cost (length (serials_of s.core.nodes)) (born_in s node.serial) (Duty.Begins kind) ≡ 7 * length (serials_of s.core.nodes) + 7
    → s.operation ≡ None → Lowers s (begin s kind node (re.begun_with s.core kind node wanted))
lowers_rebalance s kind node wanted course first surprise costs none =
    let r : Job = record (job_of kind node) { wanted = wanted } in
    let asked = those re.is_asked s.core.nodes in
    let most = ask_most r (reverse (serials_of asked)) in
    let cost = most.cost in
    let a = length-reverse (serials_of asked) in
    let b = length_serials asked in
    let c = those_shorter re.is_asked s.core.nodes in
    let d = length_serials s.core.nodes in
    begins Course.Rebalancing s kind node _ _ (ap course_of most.kind ∙ course) first surprise (λ i. refl) none (omega arith)

-- a surprise begins: its device is the target, so no more can be found gone
open_surprise : (tasks : List Task) (o q : Option Job) (k i : ℕ) → slice_get tasks 0 ≡ Some (record { kind = Duty.Begins OpKind.Surprise; serial = k }) → o ≡ None → is_target q i ≡ (k == i) → is_open (drop 1 tasks) q i ≡ true → is_open tasks o i ≡ true
open_surprise [] o q k i first none target h = absurd (cc)
open_surprise (t ∷ tasks) o q k i first none target h =
    let same : t ≡ record { kind = Duty.Begins OpKind.Surprise; serial = k } = cc in
    let own : is_surprise_of i t ≡ (k == i) = ap (λ (x : Task). is_surprise_of i x) same in
    let was : is_target o i ≡ false = ap (λ (x : Option Job). is_target x i) none in
    let h2 = subst (λ (b : Bool). (not (list_any (is_surprise_of i) tasks) && not b) ≡ true) target h in
    ap (λ (b : Bool). not (b || list_any (is_surprise_of i) tasks) && not (is_target o i)) own ∙ (ap (λ (b : Bool). not ((k == i) || list_any (is_surprise_of i) tasks) && not b) was ∙ turn (list_any (is_surprise_of i) tasks) (k == i) h2)
  where
    turn : (a b : Bool) → (not a && not b) ≡ true → (not (b || a) && true) ≡ true
    turn true b g = absurd (cc)
    turn false true g = absurd (cc)
    turn false false g = refl

lowers_surprise : (s : State) (node : Node) (k : ℕ) → node_at k s.core.nodes ≡ Some node → First s (Duty.Begins OpKind.Surprise) k → s.operation ≡ None → Lowers s (begin s OpKind.Surprise node (su.begun_surprise s.core node))
lowers_surprise s node k at first none =
    let q = su.begun_surprise s.core node in
    let target : q.target ≡ k = begun_target s.core node ∙ own_serial k node s.core.nodes at in
    let d = no_cost (born_in s) s.operation none in
    let course : course_of q.kind ≡ Course.Surprising = ap course_of (begun_work s OpKind.Surprise node).0 in
    let c : operation_cost (born_in s) (Some q) ≡ cond (born_in s k) 5 1 = ap (λ (x : Course). cost_in (born_in s) x q) course ∙ ap (λ (i : ℕ). cond (born_in s i) 5 1) target in
    let l = lighter (born_in s k) in
    lower_so s _ (task_falls s (begin s OpKind.Surprise node q).state _ first (births_same s.core.nodes s.core.nodes refl) (lighter_same s.core.nodes s.core.nodes refl) refl refl
    (λ i h. open_surprise s.tasks s.operation (Some q) k i first none (ap (λ (x : Course). target_in x q i) course ∙ ap (λ (j : ℕ). j == i) target) h) (omega arith))
  where
    lighter : (b : Bool) → cond b 5 1 + 1 ≡ cond b 6 2
    lighter true = refl
    lighter false = refl

-- a surprise of a device that weighs the same whether it may be found gone or not
lowers_idle : (s : State) (label : Label) (k : ℕ) → ((a b : Bool) → node_weight a (node_at k s.core.nodes) ≤ node_weight b (node_at k s.core.nodes)) → First s (Duty.Begins OpKind.Surprise) k → Lowers s (record { label = label; state = drop_task s })
lowers_idle s label k even first =
    let t = drop_task s in
    let w = weigh_less (weight_in t) (weight_in s) (serials_of s.core.nodes) (λ i. by_serial i (cases_eq k i)) in
    let b = dropped_cost (length (serials_of s.core.nodes)) (born_in s) s.tasks _ first in
    let c = begin_some (length (serials_of s.core.nodes)) (born_in s k) OpKind.Surprise in
    lower_so s _ (falls_coarse s t (omega arith))
  where
    opens : (tasks : List Task) → slice_get tasks 0 ≡ Some (record { kind = Duty.Begins OpKind.Surprise; serial = k }) → (i : ℕ) → k ≢ i → is_open (drop 1 tasks) s.operation i ≡ true → is_open tasks s.operation i ≡ true
    opens [] f i d h = absurd (cc)
    opens (t ∷ tasks) f i d h =
        let same : t ≡ record { kind = Duty.Begins OpKind.Surprise; serial = k } = cc in
        let out : (k == i) ≡ false = grind (arith, nat_tests) in
        let own : is_surprise_of i t ≡ false = ap (λ (x : Task). is_surprise_of i x) same ∙ out in
        ap (λ (b : Bool). not (b || list_any (is_surprise_of i) tasks) && not (is_target s.operation i)) own ∙ h

    by_serial : (i : ℕ) → (k ≡ i) ⊎ (k ≢ i) → weight_in (drop_task s) i ≤ weight_in s i
    by_serial i (inl e) = subst (λ (j : ℕ). weight_in (drop_task s) j ≤ weight_in s j) e (even (is_open (drop 1 s.tasks) s.operation k) (is_open s.tasks s.operation k))
    by_serial i (inr d) = weight_less s (drop_task s) (lighter_same s.core.nodes s.core.nodes refl) i (opens s.tasks first i d)

none_weight : (nodes : List Node) (k : ℕ) → node_at k nodes ≡ None → (a b : Bool) → node_weight a (node_at k nodes) ≤ node_weight b (node_at k nodes)
none_weight nodes k gone a b = subst (λ (o : Option Node). node_weight a o ≤ node_weight b o) (sym gone) (omega arith)

-- The cases ------------------------------------------------------------------------------------------------

pub lowers_task : (s : State) (step : Step) → s.operation ≡ None → Ascending 0 s.core.nodes → (IsNoJoin step.label → Lighter s.core.nodes step.state.core.nodes) → TaskStep s step → Lowers s step
lowers_task s _ none order light (TaskStep.skips kind k j first calm) = lowers_drop s _ _ first calm
lowers_task s _ none order light (TaskStep.misses k first gone) = lowers_idle s _ k (none_weight s.core.nodes k gone) first
lowers_task s _ none order light (TaskStep.told node first at told) = lowers_idle s _ node.serial (λ a b. told_weight a b (node_at node.serial s.core.nodes) node at told) first
lowers_task s _ none order light (TaskStep.lists k node first) = lowers_drop s _ _ first refl
lowers_task s _ none order light (TaskStep.finds_gone node child gone) = let is = gone_is s node.serial child order gone in lower_so s _ (gone_falls s node child none is.2 is.0)
lowers_task s _ none order light (TaskStep.joins node d at up below) = record { lowers = λ n. absurd n }
lowers_task s _ none order light (TaskStep.troubles node problem b fine) =
    lower_so s _ (drops s _ _ b.first refl (births_changed node.serial (with_problem (Some problem)) s.core.nodes _ refl (λ x. refl) (λ x. refl)) (light tt) refl refl refl refl)
lowers_task s _ none order light (TaskStep.installs node rank driver drivers b chosen) = lowers_install s node rank driver drivers (light tt) b.first none (chosen_named s node.serial drivers chosen).0
lowers_task s _ none order light (TaskStep.begins OpKind.Rebalance node first alone at fits) = lowers_rebalance s OpKind.Rebalance node None refl first refl refl none
lowers_task s _ none order light (TaskStep.begins OpKind.Disable node first alone at fits) = begins Course.Removing s OpKind.Disable node _ _ (ap course_of (begun_work s OpKind.Disable node).0) first refl (λ i. refl) none (omega arith)
lowers_task s _ none order light (TaskStep.begins OpKind.Eject node first alone at fits) = begins Course.Removing s OpKind.Eject node _ _ (ap course_of (begun_work s OpKind.Eject node).0) first refl (λ i. refl) none (omega arith)
lowers_task s _ none order light (TaskStep.begins OpKind.Surprise node first alone at fits) = lowers_surprise s node node.serial at first none
lowers_task s _ none order light (TaskStep.begins OpKind.Finish node first alone at fits) = begins Course.Finishing s OpKind.Finish node _ _ refl first refl (λ i. refl) none (omega arith)
lowers_task s _ none order light (TaskStep.begins OpKind.Change node first alone at fits) = lowers_rebalance s OpKind.Change node (Some _) refl first refl refl none
