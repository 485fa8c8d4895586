-- Each step of an activity, and each task but a join, lowers what is still to begin, to do, or to answer.
use Rattle.std.proofs.Common.{ℕ, drop, ◌+◌, ◌*◌, ◌<◌, ◌≤◌, ◌≡◌, ◌≢◌, ◌==◌, Bool, true, false, not, ◌&&◌, ◌||◌, List, [], ◌∷◌, ◌++◌, length, Option, Some, None, refl, sym, ap, ◌∙◌, subst, arith}
use Rattle.std.specs.List.{list_any, slice_get}
use Rattle.pnp_model.specs.Keyed.{changed_first}
use Rattle.pnp_model.specs.Tests.{is_surprise_task}
use Rattle.pnp_model.specs.Records.{Node, Core, Task, Activity, Phase, Walk, State, Duty, Job}
use Rattle.pnp_model.specs.Records.Phase.{Adding, Searching, Starting, Removing, Due}
use Rattle.pnp_model.specs.Cores.{bare, is_node, node_at, with_problem, with_stack, with_state, with_holds, stacked, serials_of, stack_of}
use Rattle.pnp_model.specs.Walks.{after, has_ended, walk_of}
use Rattle.pnp_model.specs.States.{activity_at, append_task, end_activity, is_activity, set_phase, with_core, with_phase}
use Rattle.pnp_model.specs.Starts.{StartMove, adding, own_part}
use Rattle.pnp_model.specs.Tasks.{is_surprise_of}
use Rattle.pnp_model.specs.Machine.{start_lifted, phase_walk}
use Rattle.pnp_labels.specs.declared.words.Answer.{Answer}
use Rattle.pnp_labels.specs.declared.words.Minor.{Minor}
use Rattle.pnp_labels.specs.declared.states.DevState.TheVariants.{Started}
use Rattle.pnp_labels.specs.declared.label.OpKind.{OpKind}
use Rattle.pnp_labels.specs.declared.states.Problem.{Problem}
use Rattle.pnp_laws.specs.Effects.{IsSearch}
use Rattle.pnp_laws.proofs.IdleSteps.{ActivityStep}
use Rattle.pnp_laws.specs.Kept.{Ascending}
use Rattle.pnp_laws.proofs.Lookups.{node_changed_other, node_changed_same, own_activity, first_is}
use Rattle.pnp_laws.proofs.Measures.{Falls, falls_coarse, coarse_by, coarse_no_more, coarse_weighed, tasks_cost, tasks_pushed, duty_cost, sum, sum_changed, sum_without, phase_cost, is_open, is_target, born_in, operation_cost, answers, answers_of, activity_answers, stack_at, SameBirths, births_same, births_changed, weight_in}
use Rattle.pnp_laws.proofs.Weights.{IsNoAdd, Lighter, changed_weight, lighter_same, node_weight, weigh_more}
use Rattle.pnp_laws.proofs.MeasureOps.{falls_answers, asked_less}

-- What may be found gone ---------------------------------------------------------------------------------

pub fewer_open : (a b c : Bool) → (b ≡ true → a ≡ true) → (not a && not c) ≡ true → (not b && not c) ≡ true
fewer_open true b c f h = absurd (cc)
fewer_open false true c f h = absurd (let z = f refl in cc)
fewer_open false false c f h = h

pub any_pushed : (k : ℕ) (tasks : List Task) (task : Task) → list_any (is_surprise_of k) tasks ≡ true → list_any (is_surprise_of k) (tasks ++ task ∷ []) ≡ true
any_pushed k [] task h = absurd (cc)
any_pushed k (t ∷ tasks) task h = by_test (is_surprise_of k t) (any_pushed k tasks task) h
  where
    by_test : (b : Bool) → (list_any (is_surprise_of k) tasks ≡ true → list_any (is_surprise_of k) (tasks ++ task ∷ []) ≡ true) → (b || list_any (is_surprise_of k) tasks) ≡ true → (b || list_any (is_surprise_of k) (tasks ++ task ∷ [])) ≡ true
    by_test true more g = refl
    by_test false more g = more g

pub open_pushed : (tasks : List Task) (task : Task) (o : Option Job) (k : ℕ) → is_open (tasks ++ task ∷ []) o k ≡ true → is_open tasks o k ≡ true
open_pushed tasks task o k h = fewer_open (list_any (is_surprise_of k) (tasks ++ task ∷ [])) (list_any (is_surprise_of k) tasks) (is_target o k) (any_pushed k tasks task) h

-- the first task, which is no surprise, is dropped
pub open_dropped : (tasks : List Task) (task : Task) (o p : Option Job) (k : ℕ) → slice_get tasks 0 ≡ Some task → is_surprise_task task.kind ≡ false → is_target p k ≡ is_target o k → is_open (drop 1 tasks) p k ≡ true → is_open tasks o k ≡ true
open_dropped [] task o p k first kind target h = absurd (cc)
open_dropped (t ∷ tasks) task o p k first kind target h =
    let same : t ≡ task = cc in
    let none : is_surprise_of k t ≡ false = ap (λ (x : Task). is_surprise_of k x) same ∙ ap (λ (b : Bool). b && (task.serial == k)) kind in
    ap (λ (b : Bool). not (b || list_any (is_surprise_of k) tasks) && not (is_target o k)) none ∙ (ap (λ (b : Bool). not (list_any (is_surprise_of k) tasks) && not b) (sym target) ∙ h)

pub dropped_cost : (n : ℕ) (born : ℕ → Bool) (tasks : List Task) (task : Task) → slice_get tasks 0 ≡ Some task → tasks_cost n born (drop 1 tasks) + duty_cost n (born task.serial) task.kind ≡ tasks_cost n born tasks
dropped_cost n born tasks task first = let e = ap (tasks_cost n born) (first_is tasks task first) in omega arith

-- Activities ---------------------------------------------------------------------------------------------

-- an activity that is next, in this phase
pub record Active (s : State) (node : Node) (phase : Phase) : Type 0 where
  pub none : s.operation ≡ None
  pub activity : Activity
  pub there : activity_at node.serial s.activities ≡ Some activity
  pub is : activity.phase ≡ phase
  pub at : node_at node.serial s.core.nodes ≡ Some node

pub no_cost : (born : ℕ → Bool) (o : Option Job) → o ≡ None → operation_cost born o ≡ 0
no_cost born o e = ap (operation_cost born) e

-- the activity goes on in a phase that costs less
goes_cheaper : (s : State) (node : Node) (c : Core) (phase next : Phase) → Active s node phase → SameBirths s.core.nodes c.nodes → Lighter s.core.nodes c.nodes →
    phase_cost (length (serials_of s.core.nodes)) next < phase_cost (length (serials_of s.core.nodes)) phase → Falls s (set_phase node.serial next (with_core c s))
goes_cheaper s node c phase next active same light less =
    let t = set_phase node.serial next (with_core c s) in
    let e = sum_changed (λ a. phase_cost (length (serials_of s.core.nodes)) a.phase) node.serial next s.activities active.activity active.there in
    let p = ap (phase_cost (length (serials_of s.core.nodes))) active.is in
    falls_coarse s t (coarse_by s t same refl light (λ k h. h) (omega arith))

-- a driver is added, by which the device may be heavier
adds_cheaper : (s : State) (node : Node) (f : Node → Node) (c : Core) (phase next : Phase) → Active s node phase → SameBirths s.core.nodes c.nodes → Ascending 0 s.core.nodes → c.nodes ≡ changed_first (is_node node.serial) f s.core.nodes → ((x : Node) → (f x).serial ≡ x.serial)
    → phase_cost (length (serials_of s.core.nodes)) next + 4 < phase_cost (length (serials_of s.core.nodes)) phase → Falls s (set_phase node.serial next (with_core c s))
adds_cheaper s node f c phase next active same order nodes serial less =
    let t = set_phase node.serial next (with_core c s) in
    let e = sum_changed (λ a. phase_cost (length (serials_of s.core.nodes)) a.phase) node.serial next s.activities active.activity active.there in
    let p = ap (phase_cost (length (serials_of s.core.nodes))) active.is in
    let l = coarse_weighed s t same refl in
    let w = weigh_more (weight_in t) (weight_in s) node.serial 4 0 s.core.nodes order others own in
    falls_coarse s t (omega arith)
  where
    others : (k : ℕ) → k ≢ node.serial → node_weight (is_open s.tasks s.operation k) (node_at k c.nodes) ≤ weight_in s k
    others k other =
        let q = ap (node_at k) nodes ∙ node_changed_other node.serial k f s.core.nodes serial (λ e. other (sym e)) in
        subst (λ (x : Option Node). node_weight (is_open s.tasks s.operation k) x ≤ weight_in s k) (sym q) (omega arith)

    own : node_weight (is_open s.tasks s.operation node.serial) (node_at node.serial c.nodes) ≤ weight_in s node.serial + 4
    own =
        let q = ap (node_at node.serial) nodes ∙ node_changed_same node.serial f s.core.nodes serial in
        subst (λ (x : Option Node). node_weight (is_open s.tasks s.operation node.serial) x ≤ weight_in s node.serial + 4) (sym q) (changed_weight (is_open s.tasks s.operation node.serial) f (node_at node.serial s.core.nodes))

-- the activity ends, and at most a cheaper task is appended
ends_cheaper : (s : State) (node : Node) (c : Core) (tasks : List Task) (phase : Phase) (cost : ℕ) → Active s node phase → SameBirths s.core.nodes c.nodes → Lighter s.core.nodes c.nodes → ((k : ℕ) → is_open tasks s.operation k ≡ true → is_open s.tasks s.operation k ≡ true) →
    tasks_cost (length (serials_of s.core.nodes)) (born_in s) tasks ≡ tasks_cost (length (serials_of s.core.nodes)) (born_in s) s.tasks + cost → cost < phase_cost (length (serials_of s.core.nodes)) phase → Falls s (record (end_activity node.serial (with_core c s)) { tasks = tasks })
ends_cheaper s node c tasks phase cost active same light opens is less =
    let t = record (end_activity node.serial (with_core c s)) { tasks = tasks } in
    let e = sum_without (λ a. phase_cost (length (serials_of s.core.nodes)) a.phase) node.serial s.activities active.activity active.there in
    let p = ap (phase_cost (length (serials_of s.core.nodes))) active.is in
    falls_coarse s t (coarse_by s t same refl light opens (omega arith))

ends_alone : (s : State) (node : Node) (c : Core) (phase : Phase) → Active s node phase → SameBirths s.core.nodes c.nodes → Lighter s.core.nodes c.nodes → 0 < phase_cost (length (serials_of s.core.nodes)) phase → Falls s (end_activity node.serial (with_core c s))
ends_alone s node c phase active same light less = ends_cheaper s node c s.tasks phase 0 active same light (λ k h. h) (omega arith) less

ends_then : (s : State) (node : Node) (c : Core) (phase : Phase) (kind : Duty) → Active s node phase → SameBirths s.core.nodes c.nodes → Lighter s.core.nodes c.nodes → duty_cost (length (serials_of s.core.nodes)) (born_in s node.serial) kind < phase_cost (length (serials_of s.core.nodes)) phase →
    Falls s (append_task kind node.serial (end_activity node.serial (with_core c s)))
ends_then s node c phase kind active same light less =
    let task : Task = record { kind = kind; serial = node.serial } in
    ends_cheaper s node c (s.tasks ++ task ∷ []) phase _ active same light (λ k h. open_pushed s.tasks task s.operation k h) (tasks_pushed (length (serials_of s.core.nodes)) (born_in s) s.tasks task) less

-- the walk of the activity goes on
goes_asked : (s : State) (node : Node) (c : Core) (wrap : Walk → Phase) (w : Walk) (answer : Answer) → ((v : Walk) → phase_walk (wrap v) ≡ Some v) → ((n : ℕ) (v : Walk) → phase_cost n (wrap v) ≡ phase_cost n (wrap w)) → Active s node (wrap w) → c.nodes ≡ s.core.nodes →
    w.waits ≡ false → has_ended w (length node.stack) ≡ false → Falls s (set_phase node.serial (wrap (after w answer)) (with_core c s))
goes_asked s node c wrap w answer walk cost active nodes waits ended =
    let v = after w answer in
    let t = set_phase node.serial (wrap v) (with_core c s) in
    let e = sum_changed (λ a. phase_cost (length (serials_of s.core.nodes)) a.phase) node.serial (wrap v) s.activities active.activity active.there in
    let p = ap (phase_cost (length (serials_of s.core.nodes))) active.is in
    let q = cost (length (serials_of s.core.nodes)) v in
    let most = coarse_no_more s t (births_same s.core.nodes c.nodes nodes) refl (lighter_same s.core.nodes c.nodes nodes) (λ k h. h) in
    let own : active.activity.serial ≡ node.serial = own_activity node.serial active.activity s.activities active.there in
    let less = asked_less w answer (length node.stack) waits ended in
    let stack : stack_at s.core.nodes active.activity.serial ≡ length node.stack = ap (stack_at s.core.nodes) own ∙ ap (λ (o : Option Node). length (stack_of o)) active.at in
    let was : activity_answers s.core.nodes active.activity ≡ answers (Some w) (length node.stack) =
    ap (λ (x : Phase). answers (phase_walk x) (stack_at s.core.nodes active.activity.serial)) active.is ∙ ap (λ (o : Option Walk). answers o (stack_at s.core.nodes active.activity.serial)) (walk w) ∙ ap (λ (m : ℕ). answers (Some w) m) stack in
    let now : activity_answers s.core.nodes (with_phase (wrap v) active.activity) ≡ answers (Some v) (length node.stack) =
    ap (λ (o : Option Walk). answers o (stack_at s.core.nodes active.activity.serial)) (walk v) ∙ ap (λ (m : ℕ). answers (Some v) m) stack in
    let f = sum_changed (activity_answers s.core.nodes) node.serial (wrap v) s.activities active.activity active.there in
    let old : answers_of s.core.nodes s.activities s.operation ≡ sum (activity_answers s.core.nodes) s.activities = ap (λ (o : Option Job). answers_of s.core.nodes s.activities o) active.none in
    let new : answers_of t.core.nodes t.activities t.operation ≡ sum (activity_answers s.core.nodes) (changed_first (is_activity node.serial) (with_phase (wrap v)) s.activities) =
    ap (λ (o : Option Job). answers_of t.core.nodes t.activities o) active.none ∙ ap (λ (x : List Node). sum (activity_answers x) t.activities) nodes in
    falls_answers s t (omega arith) (omega arith) (omega arith) (omega arith)

pub adding_cost : (n : ℕ) (ds : List ℕ) → phase_cost n (adding ds) ≤ 7 * n + 9 + 5 * length ds
adding_cost n [] = omega arith
adding_cost n (d ∷ ds) = omega arith

search_cost : (n : ℕ) (phase : Phase) → IsSearch phase → 7 * n + 8 ≤ phase_cost n phase
search_cost n (Adding []) h = omega arith
search_cost n Searching h = omega arith
search_cost n _ h = absurd h

-- a change of a field that no number reads
same_births : (s : State) (node : Node) (f : Node → Node) → ((x : Node) → (f x).serial ≡ x.serial) → ((x : Node) → (f x).born ≡ x.born) → SameBirths s.core.nodes (changed_first (is_node node.serial) f s.core.nodes)
same_births s node f serial born = births_changed node.serial f s.core.nodes (changed_first (is_node node.serial) f s.core.nodes) refl serial born

pub falls_act : (s : State) (node : Node) (phase : Phase) (m : StartMove) → Active s node phase → Ascending 0 s.core.nodes → (IsNoAdd m.label → Lighter s.core.nodes (start_lifted s node.serial m).state.core.nodes) → ActivityStep s.core node phase m → Falls s (start_lifted s node.serial m).state
falls_act s node _ _ active order light (ActivityStep.adds d ds) =
    let l = adding_cost (length (serials_of s.core.nodes)) ds in
    adds_cheaper s node (with_stack (node.stack ++ d ∷ []) (stacked node.state)) _ (Adding (d ∷ ds)) (adding ds) active (same_births s node (with_stack (node.stack ++ d ∷ []) (stacked node.state)) (λ x. refl) (λ x. refl)) order refl (λ x. refl) (omega arith)
falls_act s node _ _ active order light (ActivityStep.refused d ds) = goes_cheaper s node _ (Adding (d ∷ ds)) (Due Problem.FailedAdd) active (births_same s.core.nodes _ refl) (light tt) (omega arith)
falls_act s node phase _ active order light (ActivityStep.fits _ plan budget search answer) =
    let l = search_cost (length (serials_of s.core.nodes)) phase search in
    goes_cheaper s node _ phase (Starting (walk_of Minor.Start)) active (same_births s node (with_holds (own_part plan)) (λ x. refl) (λ x. refl)) (light tt) (omega arith)
falls_act s node phase _ active order light (ActivityStep.unplaced _ search) =
    let l = search_cost (length (serials_of s.core.nodes)) phase search in
    ends_then s node _ phase (Duty.Begins OpKind.Rebalance) active (births_same s.core.nodes _ refl) (light tt) (omega arith)
falls_act s node phase _ active order light (ActivityStep.tires _ search) =
    let l = search_cost (length (serials_of s.core.nodes)) phase search in
    goes_cheaper s node _ phase (Due Problem.Budget) active (births_same s.core.nodes _ refl) (light tt) (omega arith)
falls_act s node _ _ active order light (ActivityStep.asks_start w waits more) = goes_asked s node _ Starting w _ (λ v. refl) (λ n v. refl) active refl waits more
falls_act s node _ _ active order light (ActivityStep.fails w ended bad) = goes_cheaper s node _ (Starting w) (Due Problem.FailedStart) active (same_births s node (with_state node.state) (λ x. refl) (λ x. refl)) (light tt) (omega arith)
falls_act s node _ _ active order light (ActivityStep.starts w ended well) =
    ends_then s node _ (Starting w) Duty.Listing active (same_births s node (with_state Started) (λ x. refl) (λ x. refl)) (light tt) (omega arith)
falls_act s node _ _ active order light (ActivityStep.asks_remove w waits more) = goes_asked s node _ Removing w _ (λ v. refl) (λ n v. refl) active refl waits more
falls_act s node _ _ active order light (ActivityStep.strips w ended) = ends_alone s node _ (Removing w) active (same_births s node bare (λ x. refl) (λ x. refl)) (light tt) (omega arith)
falls_act s node _ _ active order light (ActivityStep.empty problem none) = ends_alone s node _ (Due problem) active (same_births s node (with_problem (Some problem)) (λ x. refl) (λ x. refl)) (light tt) (omega arith)
falls_act s node _ _ active order light (ActivityStep.undoes problem d ds stack) =
    goes_cheaper s node _ (Due problem) (Removing (walk_of Minor.Remove)) active (same_births s node (with_problem (Some problem)) (λ x. refl) (λ x. refl)) (light tt) (omega arith)
