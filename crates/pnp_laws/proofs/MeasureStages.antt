-- Each step of an operation lowers what is still to begin, to do, or to answer.
use Rattle.std.proofs.Common.{ℕ, ◌+◌, ◌*◌, ◌<◌, ◌≤◌, ◌≡◌, ◌==◌, ◌⊎◌, inl, inr, Bool, true, false, cond, List, [], ◌∷◌, length, Option, Some, None, refl, sym, ap, ◌∙◌, subst, arith, reverse}
use Rattle.std.specs.Option.{option_map}
use Rattle.std.proofs.lemmas.Bool.Decides.{nat_tests}
use Rattle.resource_reqs.specs.Spelling.Answer.{assignment, no_fit, spent}
use Rattle.resource_reqs.specs.Resources.{Reqs}
use Rattle.pnp_model.specs.Keyed.{changed_first, those}
use Rattle.pnp_model.specs.Records.{Core, Node, Task, Activity, Phase, State, Step, Found, Duty, Course, Job, Stage, course_of}
use Rattle.pnp_model.specs.Cores.{bare, drop_node, is_node, node_at, serials_of, stack_of, with_problem}
use Rattle.pnp_model.specs.Walks.{walk_of}
use Rattle.pnp_model.specs.Handles.{was_told}
use Rattle.pnp_model.specs.Trees.{leaving, stands_up}
use Rattle.pnp_model.specs.Frames.{ended, first_node, rest}
use Rattle.pnp_model.specs.States.{begin_activity, relist, set_operation, unplug, with_core}
use Rattle.pnp_labels.specs.declared.states.DevState.TheVariants.{SurpriseRemoved}
use Rattle.pnp_labels.specs.declared.states.Problem.{Problem}
use Rattle.pnp_labels.specs.declared.words.Minor.{Minor}
use Rattle.pnp_labels.specs.declared.label.Label.{Label}
use Rattle.pnp_labels.specs.declared.label.OpKind.{OpKind}
use Rattle.pnp_laws.specs.Kept.{Ascending}
use Rattle.pnp_laws.proofs.EffectsOfOperations.{fi_settle_on, rm_ask_on, su_tell_on}
use Rattle.pnp_laws.proofs.Finishing.{relist_only}
use Rattle.pnp_laws.proofs.Lists.{head_found}
use Rattle.pnp_laws.proofs.Lookups.{node_changed_same}
use Rattle.pnp_laws.proofs.Stages.{FinishAct, FinishStep, OperationStep, RebalanceAct, RebalanceStep, RemovalAct, RemovalStep, SurpriseAct, SurpriseStep}
use Rattle.pnp_laws.proofs.MeasureOps.{Down, OfCourse, TargetOver, falls_asking, falls_close, falls_leaves, falls_on, falls_over, fewer_in, rest_shorter, same_in, startable_shorter, those_shorter}
use Rattle.pnp_laws.proofs.Measures.{Falls, falls_coarse, coarse_by, coarse_weighed, duty_cost, tasks_cost, sum, sum_entered, phase_cost, is_open, open_same, is_target, target_in, born_in, operation_cost, cost_in, rebalance_cost, rank_in, rebalance_rank, removal_rank, surprise_rank, finish_rank, left_in, rebalance_left, removal_left, surprise_left, SameBirths, births_same, births_changed, births_mapped, weight_in, weight_less}
use Rattle.pnp_laws.proofs.Weights.{Lighter, node_weight, serial_in, told_drop, weigh_drop}
use Rattle.pnp_model.specs.Rebalances as re
use Rattle.pnp_model.specs.Removals as rm
use Rattle.pnp_model.specs.Surprises as su
use Rattle.pnp_model.specs.Finishes as fi
use Rattle.pnp_model.specs.Jobs.{JobMove, Beside, stands, each_gets, job_of}
use Rattle.pnp_model.specs.Machine.{is_back, job_lifted}

-- Rebalance ----------------------------------------------------------------------------------------------

-- its cost is at most this, and so are its rank and what is left to do, or its rank is lower
pub record AtMost (of : OpKind) (q : Job) (a b c : ℕ) : Type 0 where
  pub kind : q.kind ≡ of
  pub cost : rebalance_cost q q.stage ≤ a
  pub low : (rebalance_rank q.stage < b) ⊎ ((rebalance_rank q.stage ≤ b) × (rebalance_left q.todo q.stage ≤ c))

cancelled_most : (r : Job) (wanted : Option Reqs) → AtMost r.kind (stands r [] (re.cancelled wanted)) 6 4 0
cancelled_most r None = record { kind = refl; cost = omega arith; low = inr (omega arith, omega arith) }
cancelled_most r (Some wanted) = record { kind = refl; cost = omega arith; low = inr (omega arith, omega arith) }

cancel_most : (r : Job) (ks : List ℕ) → AtMost r.kind (re.cancel_on r ks) 6 4 (2 * length ks)
cancel_most r [] = cancelled_most r r.wanted
cancel_most r (k ∷ ks) = record { kind = refl; cost = omega arith; low = inr (omega arith, omega arith) }

below_six : (x c y : ℕ) → (x < 4) ⊎ ((x ≤ 4) × (y ≤ c)) → x < 6
below_six x c y (inl l) = omega arith
below_six x c y (inr (l, m)) = omega arith

search_most : (r : Job) (refused : Bool) → AtMost r.kind (cond refused (re.cancel_on r r.agreed) (stands r [] Stage.Searching)) (7 * length r.agreed + 6) 6 1
search_most r false = record { kind = refl; cost = omega arith; low = inl (omega arith) }
search_most r true =
    let q = re.cancel_on r r.agreed in
    let most = cancel_most r r.agreed in
    record { kind = most.kind; cost = let c = most.cost in omega arith; low = inl (below_six (rebalance_rank q.stage) (2 * length r.agreed) (rebalance_left q.todo q.stage) most.low) }

pub ask_most : (r : Job) (ks : List ℕ) → AtMost r.kind (re.ask_on r ks) (7 * (length ks + length r.agreed) + 6) 6 (2 * length ks + 1)
ask_most r [] = let most = search_most r (re.has_refused r) in record { kind = most.kind; cost = let c = most.cost in omega arith; low = most.low }
ask_most r (k ∷ ks) = record { kind = refl; cost = omega arith; low = inr (omega arith, omega arith) }

stop_most : (r : Job) (ks : List ℕ) → AtMost r.kind (re.stop_on r ks) (7 * length r.agreed + 6) 4 (2 * length ks)
stop_most r [] = record { kind = refl; cost = omega arith; low = inr (omega arith, omega arith) }
stop_most r (k ∷ ks) = record { kind = refl; cost = omega arith; low = inr (omega arith, omega arith) }

restart_most : (r : Job) (ks : List ℕ) → AtMost r.kind (each_gets Minor.Start Stage.Restarting r ks (stands r [] Stage.Ending)) (7 * length ks + 6) 2 (2 * length ks + 1)
restart_most r [] = record { kind = refl; cost = omega arith; low = inr (omega arith, omega arith) }
restart_most r (k ∷ ks) = record { kind = refl; cost = omega arith; low = inr (omega arith, omega arith) }

re_falls : (s t : State) (r q : Job) (course : course_of r.kind ≡ Course.Rebalancing) (stage : Stage) (a b c : ℕ) → r.stage ≡ stage → t.operation ≡ Some q → SameBirths s.core.nodes t.core.nodes → Lighter s.core.nodes t.core.nodes → t.world ≡ s.world → t.tasks ≡ s.tasks → t.activities ≡ s.activities →
    AtMost r.kind q a b c → a ≤ rebalance_cost r stage → Down b (rebalance_rank stage) c (rebalance_left r.todo stage) → Falls (set_operation (Some r) s) t
re_falls s t r q course stage a b c is now same light world tasks acts most cost down =
    let p = most.cost in
    let e = ap (rebalance_cost r) is in
    let f = ap rebalance_rank is in
    let g = ap (rebalance_left r.todo) is in
    falls_on Course.Rebalancing s t r q (record { own = course; kind = most.kind }) now same world light tasks acts (λ k. refl) (omega arith)
    (elim most.low [
      | inl l ↦ elim down [ inl h ↦ inl (omega arith) | inr (h, less) ↦ inl (omega arith) ]
      | inr (l, m) ↦ elim down [ inl h ↦ inl (omega arith) | inr (h, less) ↦ inr (omega arith, omega arith) ]
    ])

begin_most : (n : ℕ) (b : Bool) → duty_cost n b (Duty.Begins OpKind.Surprise) ≤ 6
begin_most n true = omega arith
begin_most n false = omega arith

-- more tasks leave no more to be found gone
open_first : (task : Task) (tasks : List Task) (o p : Option Job) (k : ℕ) → is_target p k ≡ is_target o k → is_open (task ∷ tasks) p k ≡ true → is_open tasks o k ≡ true
open_first task tasks o p k target h = grind (arith, nat_tests)

re_enters : (s : State) (r : Job) (phase : Phase) → course_of r.kind ≡ Course.Rebalancing → r.stage ≡ Stage.Ending → phase_cost (length (serials_of s.core.nodes)) phase ≤ 5
    → Falls (set_operation (Some r) s) (begin_activity r.target phase (set_operation None s))
re_enters s r phase course is less =
    let e = sum_entered (λ x. phase_cost (length (serials_of s.core.nodes)) x.phase) (record { serial = r.target; phase = phase }) s.activities in
    let c = ap (rebalance_cost r) is in
    falls_close Course.Rebalancing s _ r course (λ k. refl) refl refl refl refl (omega arith)

re_drops : (s : State) (r : Job) → course_of r.kind ≡ Course.Rebalancing → r.stage ≡ Stage.Ending → Falls (set_operation (Some r) s) (set_operation None s)
re_drops s r course is = falls_close Course.Rebalancing s _ r course (λ k. refl) refl refl refl refl (let c = ap (rebalance_cost r) is in omega arith)

re_closes : (s : State) (r : Job) (found : Found) (wanted : Option Reqs) (label : Label) → course_of r.kind ≡ Course.Rebalancing → r.stage ≡ Stage.Ending
    → Falls (set_operation (Some r) s) (job_lifted s (record { label = label; core = s.core; frame = r; beside = re.over s.core r found wanted })).state
re_closes s r (assignment plan) None label course is = by_test (stands_up s.core.nodes r.target)
  where
    by_test : (up : Bool) → Falls (set_operation (Some r) s) (job_lifted s (record { label = label; core = s.core; frame = r; beside = cond up Beside.OverStart Beside.Over })).state
    by_test true = re_enters s r (Phase.Starting (walk_of Minor.Start)) course is (omega arith)
    by_test false = re_drops s r course is
re_closes s r no_fit None label course is = re_enters s r (Phase.Removing (walk_of Minor.Remove)) course is (omega arith)
re_closes s r spent None label course is = re_enters s r (Phase.Removing (walk_of Minor.Remove)) course is (omega arith)
re_closes s r (assignment plan) (Some wanted) label course is = re_drops s r course is
re_closes s r no_fit (Some wanted) label course is = re_drops s r course is
re_closes s r spent (Some wanted) label course is = re_drops s r course is

falls_rebalance : (s : State) (r : Job) (stage : Stage) (m : JobMove) → Lighter s.core.nodes (job_lifted s m).state.core.nodes → course_of r.kind ≡ Course.Rebalancing → r.stage ≡ stage → RebalanceStep s.core r stage m → Falls (set_operation (Some r) s) (job_lifted s m).state
falls_rebalance s r stage m light course is (RebalanceStep.agrees node w e good) =
    let l = rest_shorter s.core.nodes r.todo node e.first in
    re_falls s _ r _ course Stage.Asking _ _ _ is refl (births_changed node.serial _ s.core.nodes _ refl (λ x. refl) (λ x. refl)) light refl refl refl (ask_most (record r { agreed = node.serial ∷ r.agreed }) (rest r.todo)) (omega arith) (inr (omega arith, omega arith))
falls_rebalance s r stage m light course is (RebalanceStep.refuses node w e bad) =
    let q = re.answers r node true in
    re_falls s _ r q course Stage.Asking (7 * (length r.todo + length r.agreed) + 6) 6 (2 * length r.todo) is refl (births_changed node.serial _ s.core.nodes _ refl (λ x. refl) (λ x. refl)) light refl refl refl
    (record { kind = refl; cost = omega arith; low = inr (omega arith, omega arith) }) (omega arith) (inr (omega arith, omega arith))
falls_rebalance s r stage m light course is (RebalanceStep.takes_back node w e) =
    let more = those (re.is_not_above s.core.nodes node.serial) (rest r.todo) in
    let l = rest_shorter s.core.nodes r.todo node e.first in
    let f = those_shorter (re.is_not_above s.core.nodes node.serial) (rest r.todo) in
    re_falls s _ r _ course Stage.TakingBack _ _ _ is refl (births_changed node.serial _ s.core.nodes _ refl (λ x. refl) (λ x. refl)) light refl refl refl (ask_most r more) (omega arith) (inr (omega arith, omega arith))
falls_rebalance s r stage m light course is (RebalanceStep.acts _ _ (RebalanceAct.searches (assignment plan) budget answer)) =
    re_falls s _ r _ course Stage.Searching _ _ _ is refl (births_same s.core.nodes s.core.nodes refl) light refl refl refl (stop_most (record r { found = assignment plan }) (reverse r.agreed)) (omega arith) (inl (omega arith))
falls_rebalance s r stage m light course is (RebalanceStep.acts _ _ (RebalanceAct.searches no_fit budget answer)) =
    re_falls s _ r _ course Stage.Searching _ _ _ is refl (births_same s.core.nodes s.core.nodes refl) light refl refl refl (cancel_most (record r { found = no_fit }) r.agreed) (omega arith) (inl (omega arith))
falls_rebalance s r stage m light course is (RebalanceStep.acts _ _ (RebalanceAct.searches spent budget answer)) =
    re_falls s _ r _ course Stage.Searching _ _ _ is refl (births_same s.core.nodes s.core.nodes refl) light refl refl refl (cancel_most (record r { found = spent }) r.agreed) (omega arith) (inl (omega arith))
falls_rebalance s r stage m light course is (RebalanceStep.cancels node w e) =
    let l = rest_shorter s.core.nodes r.todo node e.first in
    re_falls s _ r _ course Stage.Cancelling _ _ _ is refl (births_changed node.serial _ s.core.nodes _ refl (λ x. refl) (λ x. refl)) light refl refl refl (cancel_most r (rest r.todo)) (omega arith) (inr (omega arith, omega arith))
falls_rebalance s r stage m light course is (RebalanceStep.acts _ _ RebalanceAct.sticks) =
    re_falls s _ r (stands r [] Stage.Ending) course Stage.Stuck 6 1 0 is refl (births_changed r.target _ s.core.nodes _ refl (λ x. refl) (λ x. refl)) light refl refl refl
    (record { kind = refl; cost = omega arith; low = inr (omega arith, omega arith) }) (omega arith) (inl (omega arith))
falls_rebalance s r stage m light course is (RebalanceStep.stops node w e) =
    let l = rest_shorter s.core.nodes r.todo node e.first in
    re_falls s _ r _ course Stage.Stopping _ _ _ is refl (births_changed node.serial _ s.core.nodes _ refl (λ x. refl) (λ x. refl)) light refl refl refl (stop_most r (rest r.todo)) (omega arith) (inr (omega arith, omega arith))
falls_rebalance s r stage m light course is (RebalanceStep.acts _ _ RebalanceAct.commits) =
    let l = startable_shorter s.core.nodes r.agreed in
    re_falls s _ r _ course Stage.Committing _ _ _ is refl (births_mapped _ s.core.nodes _ refl (λ x. refl) (λ x. refl)) light refl refl refl (restart_most r (re.startable s.core.nodes r.agreed)) (omega arith) (inl (omega arith))
falls_rebalance s r stage m light course is (RebalanceStep.restarts node w e good) =
    let nodes = (ended s.core node Minor.Start false).nodes in
    let l = rest_shorter s.core.nodes r.todo node e.first in
    let f = startable_shorter nodes (rest r.todo) in
    re_falls s _ r _ course Stage.Restarting _ _ _ is refl (births_changed node.serial _ s.core.nodes _ refl (λ x. refl) (λ x. refl)) light refl refl refl (restart_most r (re.startable nodes (rest r.todo))) (omega arith) (inr (omega arith, omega arith))
falls_rebalance s r stage m light course is (RebalanceStep.fails node w e bad) =
    re_falls s _ r (stands r r.todo Stage.Failed) course Stage.Restarting (7 * length r.todo + 6) 2 (2 * length r.todo) is refl (births_changed node.serial _ s.core.nodes _ refl (λ x. refl) (λ x. refl)) light refl refl refl
    (record { kind = refl; cost = omega arith; low = inr (omega arith, omega arith) }) (omega arith) (inr (omega arith, omega arith))
falls_rebalance s r stage m light course is (RebalanceStep.acts _ _ (RebalanceAct.failed node first)) =
    let t = (job_lifted s (re.failed s.core r node)).state in
    let u = set_operation (Some r) s in
    let task : Task = record { kind = Duty.Begins OpKind.Surprise; serial = node.serial } in
    let most = restart_most r (re.startable s.core.nodes (rest r.todo)) in
    let a = most.cost in
    let l = rest_shorter s.core.nodes r.todo node first in
    let f = startable_shorter s.core.nodes (rest r.todo) in
    let b = begin_most (length (serials_of s.core.nodes)) (born_in s node.serial) in
    let d0 = ap (λ (x : Course). cost_in (born_in s) x r) course in
    let d = d0 ∙ ap (rebalance_cost r) is in
    let new = ap course_of most.kind ∙ course in
    let c = ap (λ (x : Course). cost_in (born_in s) x (re.failed s.core r node).frame) new in
    let target : (k : ℕ) → is_target t.operation k ≡ is_target (Some r) k = λ k. ap (λ (x : Course). target_in x (re.failed s.core r node).frame k) new ∙ sym (ap (λ (x : Course). target_in x r k) course) in
    falls_coarse u t (coarse_by u t (births_changed node.serial _ s.core.nodes _ refl (λ x. refl) (λ x. refl)) refl light
    (λ k h. open_first task s.tasks (Some r) t.operation k (target k) h) (omega arith))
falls_rebalance s r stage m light course is (RebalanceStep.acts _ _ RebalanceAct.closes) = re_closes s r r.found r.wanted (Label.End r.kind r.path (re.result r.found (re.has_refused r))) course is

-- Removal ------------------------------------------------------------------------------------------------

-- ranks of an operation, and what is left, are at most these
record Most (course : Course) (o q : Job) (b c : ℕ) : Type 0 where
  kind : q.kind ≡ o.kind
  rank : rank_in course q ≤ b
  left : left_in course q ≤ c

rm_falls : (s t : State) (o q : Job) (stage : Stage) → OfCourse Course.Removing o q → o.stage ≡ stage → t.operation ≡ Some q → SameBirths s.core.nodes t.core.nodes → Lighter s.core.nodes t.core.nodes → t.world ≡ s.world → t.tasks ≡ s.tasks → t.activities ≡ s.activities →
    Down (removal_rank q.stage) (removal_rank stage) (removal_left q.todo q.stage) (removal_left o.todo stage) → Falls (set_operation (Some o) s) t
rm_falls s t o q stage of is now same light world tasks acts down =
    falls_on Course.Removing s t o q of now same world light tasks acts (λ k. refl) (omega arith)
    (subst (λ (x : Stage). Down (removal_rank q.stage) (removal_rank x) (removal_left q.todo q.stage) (removal_left o.todo x)) (sym is) down)

finish_most : (nodes : List Node) (o : Job) (ks : List ℕ) → Most Course.Removing o (rm.finish_on nodes o ks) 2 (2 * length ks + 1)
finish_most nodes o [] = record { kind = refl; rank = omega arith; left = omega arith }
finish_most nodes o (k ∷ ks) = by_stack (stack_of (node_at k nodes))
  where
    by_stack : (stack : List ℕ) → Most Course.Removing o (rm.finish_with o (k ∷ ks) stack) 2 (2 * length (k ∷ ks) + 1)
    by_stack [] = record { kind = refl; rank = omega arith; left = omega arith }
    by_stack (d ∷ ds) = record { kind = refl; rank = omega arith; left = omega arith }

ask_down : (nodes : List Node) (o : Job) (ks : List ℕ) (m : ℕ) → length ks < m → Down (removal_rank (rm.ask_on nodes o ks).stage) 4 (removal_left (rm.ask_on nodes o ks).todo (rm.ask_on nodes o ks).stage) (2 * m)
ask_down nodes o [] m l = inl (let a = (finish_most nodes o o.set).rank in omega arith)
ask_down nodes o (k ∷ ks) m l = inr (omega arith, omega arith)

rm_cancel_most : (o : Job) (ks : List ℕ) → Most Course.Removing o (rm.cancel_on o ks) 2 (2 * length ks)
rm_cancel_most o [] = record { kind = refl; rank = omega arith; left = omega arith }
rm_cancel_most o (k ∷ ks) = record { kind = refl; rank = omega arith; left = omega arith }

-- the device remains
rm_remains : (s t : State) (o : Job) (node : Node) (problem : Problem) → course_of o.kind ≡ Course.Removing → o.stage ≡ Stage.Settling → first_node s.core.nodes o.todo ≡ Some node → t.operation ≡ Some (rm.finish_on s.core.nodes o (rest o.todo)) →
    t.core.nodes ≡ changed_first (is_node node.serial) (with_problem (Some problem)) s.core.nodes → Lighter s.core.nodes t.core.nodes → t.world ≡ s.world → t.tasks ≡ s.tasks → t.activities ≡ s.activities → Falls (set_operation (Some o) s) t
rm_remains s t o node problem course is first now nodes light world tasks acts =
    let most = finish_most s.core.nodes o (rest o.todo) in
    let a = most.rank in
    let b = most.left in
    let l = rest_shorter s.core.nodes o.todo node first in
    rm_falls s t o _ Stage.Settling (record { own = course; kind = most.kind }) is now (births_changed node.serial _ s.core.nodes _ nodes (λ x. refl) (λ x. refl)) light world tasks acts (inr (omega arith, omega arith))

falls_removal : (s : State) (o : Job) (stage : Stage) (m : JobMove) → Ascending 0 s.core.nodes → Lighter s.core.nodes (job_lifted s m).state.core.nodes → course_of o.kind ≡ Course.Removing → o.stage ≡ stage → RemovalStep s.core o stage m → Falls (set_operation (Some o) s) (job_lifted s m).state
falls_removal s o stage m order light course is (RemovalStep.acts _ _ (RemovalAct.declines node first)) =
    let most = rm_cancel_most (record o { refused = node.serial ∷ o.refused }) o.agreed in
    let a = most.rank in
    rm_falls s _ o _ Stage.Next (record { own = course; kind = most.kind }) is refl (births_same s.core.nodes s.core.nodes refl) light refl refl refl (inl (omega arith))
falls_removal s o stage m order light course is (RemovalStep.agrees node w e good) =
    let l = rest_shorter s.core.nodes o.todo node e.first in
    rm_falls s _ o _ Stage.Asking (record { own = course; kind = (rm_ask_on s.core.nodes (record o { agreed = node.serial ∷ o.agreed }) (rest o.todo)).kind }) is refl (births_changed node.serial _ s.core.nodes _ refl (λ x. refl) (λ x. refl)) light refl refl refl (ask_down s.core.nodes (record o { agreed = node.serial ∷ o.agreed }) (rest o.todo) (length o.todo) (omega arith))
falls_removal s o stage m order light course is (RemovalStep.refuses node w e bad) =
    rm_falls s _ o _ Stage.Asking (record { own = course; kind = refl }) is refl (births_changed node.serial _ s.core.nodes _ refl (λ x. refl) (λ x. refl)) light refl refl refl (inl (omega arith))
falls_removal s o stage m order light course is (RemovalStep.takes_back node w e) =
    let most = rm_cancel_most o o.agreed in
    let a = most.rank in
    rm_falls s _ o _ Stage.TakingBack (record { own = course; kind = most.kind }) is refl (births_changed node.serial _ s.core.nodes _ refl (λ x. refl) (λ x. refl)) light refl refl refl (inl (omega arith))
falls_removal s o stage m order light course is (RemovalStep.cancels node w e) =
    let most = rm_cancel_most o (rest o.todo) in
    let a = most.rank in
    let b = most.left in
    let l = rest_shorter s.core.nodes o.todo node e.first in
    rm_falls s _ o _ Stage.Cancelling (record { own = course; kind = most.kind }) is refl (births_changed node.serial _ s.core.nodes _ refl (λ x. refl) (λ x. refl)) light refl refl refl (inr (omega arith, omega arith))
falls_removal s o stage m order light course is (RemovalStep.removes node w e) =
    rm_falls s _ o _ Stage.Removing (record { own = course; kind = refl }) is refl (births_changed node.serial _ s.core.nodes _ refl (λ x. refl) (λ x. refl)) light refl refl refl (inr (omega arith, omega arith))
falls_removal s o stage m order light course is (RemovalStep.acts _ _ (RemovalAct.leaves node first inside)) =
    let u = set_operation (Some (rm.finish_on s.core.nodes o (rest o.todo))) (with_core (drop_node node.serial s.core) s) in
    let only = relist_only node.path node.born u in
    falls_leaves Course.Removing s (relist node.path node.born u) o _ node (record { own = course; kind = (finish_most s.core.nodes o (rest o.todo)).kind }) order first only.operation only.nodes light (same_in s u node.path node.born (λ x h. h)) only.tasks only.activities (λ k. refl) (omega arith)
falls_removal s o stage m order light course is (RemovalStep.acts _ _ (RemovalAct.ejects node first)) =
    let u = unplug node.born (set_operation (Some (rm.finish_on s.core.nodes o (rest o.todo))) (with_core (drop_node node.serial s.core) s)) in
    let only = relist_only node.path node.born u in
    falls_leaves Course.Removing s (relist node.path node.born u) o _ node (record { own = course; kind = (finish_most s.core.nodes o (rest o.todo)).kind }) order first only.operation only.nodes light (same_in s u node.path node.born (fewer_in (node.born ∷ []) s.world)) only.tasks only.activities (λ k. refl) (omega arith)
falls_removal s o stage m order light course is (RemovalStep.acts _ _ (RemovalAct.disables node first over target)) = rm_remains s _ o node Problem.Disabled course is first refl refl light refl refl refl
falls_removal s o stage m order light course is (RemovalStep.acts _ _ (RemovalAct.remains node problem first over other)) = rm_remains s _ o node problem course is first refl refl light refl refl refl
falls_removal s o stage m order light course is (RemovalStep.acts _ _ RemovalAct.closes) = falls_close Course.Removing s _ o course (λ k. refl) refl refl refl refl (omega arith)

-- Surprise -----------------------------------------------------------------------------------------------

same_cost : (born : ℕ → Bool) (o q : Job) → q.target ≡ o.target → cost_in born Course.Surprising q ≤ cost_in born Course.Surprising o
same_cost born o q target = subst (λ (i : ℕ). cost_in born Course.Surprising q ≤ cond (born i) 5 1) target (omega arith)

su_falls : (s t : State) (o q : Job) (stage : Stage) → OfCourse Course.Surprising o q → o.stage ≡ stage → t.operation ≡ Some q → q.target ≡ o.target → SameBirths s.core.nodes t.core.nodes → Lighter s.core.nodes t.core.nodes → t.world ≡ s.world → t.tasks ≡ s.tasks → t.activities ≡ s.activities →
    Down (surprise_rank q.stage) (surprise_rank stage) (surprise_left q.todo q.stage) (surprise_left o.todo stage) → Falls (set_operation (Some o) s) t
su_falls s t o q stage of is now target same light world tasks acts down =
    falls_on Course.Surprising s t o q of now same world light tasks acts (λ k. ap (λ (j : ℕ). j == k) target) (same_cost (born_in s) o q target)
    (subst (λ (x : Stage). Down (surprise_rank q.stage) (surprise_rank x) (surprise_left q.todo q.stage) (surprise_left o.todo x)) (sym is) down)

-- the devices that are left are finished next, and the target is the same
su_finish_most : (o : Job) (ks : List ℕ) → Most Course.Surprising o (su.finish_on o ks) 2 (3 * length ks + 2) × ((su.finish_on o ks).target ≡ o.target)
su_finish_most o [] = (record { kind = refl; rank = omega arith; left = omega arith }, refl)
su_finish_most o (k ∷ ks) = (record { kind = refl; rank = omega arith; left = omega arith }, refl)

tell_target : (o : Job) (ks : List ℕ) → (su.tell_on o ks).target ≡ o.target
tell_target o [] = (su_finish_most o o.set).1
tell_target o (k ∷ ks) = refl

pub begun_target : (c : Core) (node : Node) → (su.begun_surprise c node).target ≡ node.serial
begun_target c node =
    let set = leaving c node.serial in
    let o : Job = record (job_of OpKind.Surprise node) { set = set; told = those (λ k. was_told (node_at k c.nodes)) set } in
    tell_target o (those (λ k. su.is_told_node (node_at k c.nodes)) set)

tell_down : (o : Job) (ks : List ℕ) (m : ℕ) → length ks < m → Down (surprise_rank (su.tell_on o ks).stage) 3 (surprise_left (su.tell_on o ks).todo (su.tell_on o ks).stage) (2 * m)
tell_down o [] m l = inl (let a = (su_finish_most o o.set).0.rank in omega arith)
tell_down o (k ∷ ks) m l = inr (omega arith, omega arith)

-- at the end the target has left, or was told
abbrev pub EndsOver : State → Job → Stage → Type 0
EndsOver s o Stage.Ending = TargetOver s o.target
EndsOver s o _ = Unit {0}

falls_surprise : (s : State) (o : Job) (stage : Stage) (m : JobMove) → Ascending 0 s.core.nodes → Lighter s.core.nodes (job_lifted s m).state.core.nodes → course_of o.kind ≡ Course.Surprising → o.stage ≡ stage → EndsOver s o stage → SurpriseStep s.core o (is_back s o Course.Surprising) s.handles stage m
    → Falls (set_operation (Some o) s) (job_lifted s m).state
falls_surprise s o stage m order light course is over (SurpriseStep.tells node w e) =
    let l = rest_shorter s.core.nodes o.todo node e.first in
    su_falls s _ o _ Stage.Telling (record { own = course; kind = (su_tell_on o (rest o.todo)).kind }) is refl (tell_target o (rest o.todo)) (births_changed node.serial _ s.core.nodes _ refl (λ x. refl) (λ x. refl)) light refl refl refl (tell_down o (rest o.todo) (length o.todo) (omega arith))
falls_surprise s o stage m order light course is over (SurpriseStep.removes node w e) =
    su_falls s _ o _ Stage.Removing (record { own = course; kind = refl }) is refl refl (births_changed node.serial _ s.core.nodes _ refl (λ x. refl) (λ x. refl)) light refl refl refl (inr (omega arith, omega arith))
falls_surprise s o stage m order light course is over (SurpriseStep.acts _ _ (SurpriseAct.lags node first behind)) =
    let most = su_finish_most (record o { behind = node.serial ∷ o.behind }) (rest o.todo) in
    let a = most.0.rank in
    let b = most.0.left in
    let l = rest_shorter s.core.nodes o.todo node first in
    su_falls s _ o _ Stage.Next (record { own = course; kind = most.0.kind }) is refl most.1 (births_same s.core.nodes s.core.nodes refl) light refl refl refl (inr (omega arith, omega arith))
falls_surprise s o stage m order light course is over (SurpriseStep.acts _ _ (SurpriseAct.leaves node first why)) =
    let q = su.finish_on o (rest o.todo) in
    let u = set_operation (Some q) (with_core (drop_node node.serial s.core) s) in
    let only = relist_only node.path node.born u in
    let target = (su_finish_most o (rest o.todo)).1 in
    falls_leaves Course.Surprising s (relist node.path node.born u) o q node (record { own = course; kind = (su_finish_most o (rest o.todo)).0.kind }) order first only.operation only.nodes light (same_in s u node.path node.born (λ x h. h)) only.tasks only.activities
    (λ k. ap (λ (j : ℕ). j == k) target) (same_cost (born_in s) o q target)
falls_surprise s o stage m order light course is over (SurpriseStep.acts _ _ (SurpriseAct.remains node first other outside)) =
    let most = su_finish_most o (rest o.todo) in
    let a = most.0.rank in
    let b = most.0.left in
    let l = rest_shorter s.core.nodes o.todo node first in
    su_falls s _ o _ Stage.Settling (record { own = course; kind = most.0.kind }) is refl most.1 (births_changed node.serial _ s.core.nodes _ refl (λ x. refl) (λ x. refl)) light refl refl refl (inr (omega arith, omega arith))
falls_surprise s o stage m order light course is over (SurpriseStep.acts _ _ (SurpriseAct.stays node first target back)) = falls_over s _ o course order (inl back) refl refl refl refl refl
falls_surprise s o stage m order light course is over (SurpriseStep.acts _ _ SurpriseAct.closes) = falls_over s _ o course order over refl refl refl refl refl

-- Finish -------------------------------------------------------------------------------------------------

-- its device waits to be finished, whose drivers are removed
abbrev pub TakesTold : State → Job → Stage → Type 0
TakesTold s f Stage.Removing = (node : Node) → first_node s.core.nodes f.todo ≡ Some node → node.state ≡ SurpriseRemoved
TakesTold s f _ = Unit {0}

-- a device that was told weighs more than one without drivers
fi_strips : (s t : State) (f g : Job) (node : Node) → OfCourse Course.Finishing f g → first_node s.core.nodes f.todo ≡ Some node → node.state ≡ SurpriseRemoved → t.operation ≡ Some g → t.core.nodes ≡ changed_first (is_node node.serial) bare s.core.nodes → Lighter s.core.nodes t.core.nodes
    → t.world ≡ s.world → t.tasks ≡ s.tasks → t.activities ≡ s.activities → Falls (set_operation (Some f) s) t
fi_strips s t f g node of first told now nodes light world tasks acts =
    let u = set_operation (Some f) s in
    let at = (head_found s.core.nodes f.todo node first).1 in
    let same = births_changed node.serial bare s.core.nodes t.core.nodes nodes (λ x. refl) (λ x. refl) in
    let l = coarse_weighed u t same world in
    let new = ap course_of of.kind ∙ of.own in
    let target : (k : ℕ) → is_target t.operation k ≡ is_target (Some f) k = λ k. ap (λ (x : Option Job). is_target x k) now ∙ ap (λ (x : Course). target_in x g k) new ∙ sym (ap (λ (x : Course). target_in x f k) of.own) in
    let w = weigh_drop (weight_in t) (weight_in u) node.serial 1 (serials_of s.core.nodes) (λ k. weight_less u t light k (open_same s.tasks t.tasks (Some f) t.operation k tasks (target k)))
    (serial_in s.core.nodes node.serial node at) (stripped at) in
    let a = ap (tasks_cost (length (serials_of s.core.nodes)) (born_in s)) tasks in
    let b = ap (λ (xs : List Activity). sum (λ a. phase_cost (length (serials_of s.core.nodes)) a.phase) xs) acts in
    let c = ap (operation_cost (born_in s)) now ∙ ap (λ (x : Course). cost_in (born_in s) x g) new in
    let d = ap (λ (x : Course). cost_in (born_in s) x f) of.own in
    falls_coarse u t (omega arith)
  where
    stripped : node_at node.serial s.core.nodes ≡ Some node → weight_in t node.serial + 1 ≤ node_weight (is_open s.tasks (Some f) node.serial) (node_at node.serial s.core.nodes)
    stripped at =
        let now = ap (node_at node.serial) nodes ∙ node_changed_same node.serial bare s.core.nodes (λ x. refl) ∙ ap (option_map bare) at in
        told_drop (is_open t.tasks t.operation node.serial) (is_open s.tasks (Some f) node.serial) (node_at node.serial t.core.nodes) (node_at node.serial s.core.nodes) node now at told

falls_finish : (s : State) (f : Job) (stage : Stage) (m : JobMove) → Ascending 0 s.core.nodes → Lighter s.core.nodes (job_lifted s m).state.core.nodes → course_of f.kind ≡ Course.Finishing → f.stage ≡ stage → TakesTold s f stage → FinishStep s.core f (is_back s f Course.Finishing) s.handles stage m
    → Falls (set_operation (Some f) s) (job_lifted s m).state
falls_finish s f stage m order light course is told (FinishStep.removes node w e) = fi_strips s _ f _ node (record { own = course; kind = (fi_settle_on f (fi.is_leaving s.core.nodes node (is_back s f Course.Finishing)) node.problem).kind }) e.first (told node e.first) refl refl light refl refl refl
falls_finish s f stage m order light course is told (FinishStep.acts _ _ (FinishAct.leaves node first)) =
    let u = set_operation (Some (fi.next_on f)) (with_core (drop_node node.serial s.core) s) in
    let only = relist_only node.path node.born u in
    falls_leaves Course.Finishing s (relist node.path node.born u) f _ node (record { own = course; kind = refl }) order first only.operation only.nodes light (same_in s u node.path node.born (λ x h. h)) only.tasks only.activities (λ k. refl) (omega arith)
falls_finish s f stage m order light course is told (FinishStep.acts _ _ (FinishAct.holds node first)) =
    let a = ap finish_rank is in
    falls_on Course.Finishing s _ f (fi.next_on f) (record { own = course; kind = refl }) refl (births_changed node.serial _ s.core.nodes _ refl (λ x. refl) (λ x. refl)) refl light refl refl (λ k. refl) (omega arith) (inl (omega arith))
falls_finish s f stage m order light course is told (FinishStep.acts _ _ (FinishAct.closes none)) = falls_close Course.Finishing s _ f course (λ k. refl) refl refl refl refl (omega arith)

-- All operations -----------------------------------------------------------------------------------------

-- what a step needs of what is kept
abbrev pub ReadyIn : Course → State → Job → Type 0
ReadyIn Course.Surprising s o = EndsOver s o o.stage
ReadyIn Course.Finishing s f = TakesTold s f f.stage
ReadyIn _ s o = Unit {0}

abbrev pub Ready : State → Job → Type 0
Ready s o = ReadyIn (course_of o.kind) s o

ready_by : (course : Course) (s : State) (o : Job) → course_of o.kind ≡ course → Ready s o → ReadyIn course s o
ready_by course s o is h = subst (λ (x : Course). ReadyIn x s o) is h

pub falls_operation : (s : State) (o : Job) (step : Step) → Ascending 0 s.core.nodes → Lighter s.core.nodes step.state.core.nodes → Ready s o → OperationStep s o step → Falls (set_operation (Some o) s) step.state
falls_operation s o step order light ready (OperationStep.asks node w a) = falls_asking s o node w order a
falls_operation s o step order light ready (OperationStep.rebalances stage m course is x) = falls_rebalance s o stage m light course is x
falls_operation s o step order light ready (OperationStep.removes stage m course is x) = falls_removal s o stage m order light course is x
falls_operation s o step order light ready (OperationStep.surprises stage m course is x) = falls_surprise s o stage m order light course is (subst (λ (y : Stage). EndsOver s o y) is (ready_by Course.Surprising s o course ready)) x
falls_operation s o step order light ready (OperationStep.finishes stage m course is x) = falls_finish s o stage m order light course is (subst (λ (y : Stage). TakesTold s o y) is (ready_by Course.Finishing s o course ready)) x
