-- How what is still to begin, to do, or to answer is lowered: an operation goes on, is asked, loses a device, or closes.
use Rattle.std.proofs.Common.{ℕ, suc, ◌+◌, ◌-◌, ◌*◌, ◌<◌, ◌≤◌, ◌≡◌, ◌≢◌, ◌==◌, ◌⊎◌, inl, inr, Bool, true, false, not, ◌&&◌, ◌||◌, cond, List, [], ◌∷◌, ◌++◌, length, Option, Some, None, refl, sym, ap, ◌∙◌, subst, arith, nat_le}
use Rattle.std.specs.List.{list_any}
use Rattle.std.proofs.lemmas.Bool.{cases_eq}
use Rattle.std.proofs.lemmas.Bool.Decides.{nat_tests}
use Rattle.pnp_model.specs.Keyed.{those, without_first}
use Rattle.pnp_model.specs.Tests.{has}
use Rattle.pnp_model.specs.Records.{Node, Device, Task, Activity, Walk, State, Step, Duty, Course, Job, Stage, course_of}
use Rattle.pnp_model.specs.Cores.{is_node, node_at, serials_of, stack_of}
use Rattle.pnp_model.specs.Walks.{after, is_bad, has_ended}
use Rattle.pnp_model.specs.Trees.{stands_up}
use Rattle.pnp_model.specs.Frames.{first_node, rest}
use Rattle.pnp_model.specs.States.{is_in_world, relist, set_operation, without_those}
use Rattle.pnp_model.specs.Tasks.{is_surprise_of}
use Rattle.pnp_model.specs.Machine.{is_born}
use Rattle.pnp_labels.specs.Texts.{Text}
use Rattle.pnp_labels.specs.declared.states.DevState.TheVariants.{SurpriseRemoved}
use Rattle.pnp_labels.specs.declared.words.Answer.{Answer}
use Rattle.pnp_labels.specs.declared.words.Answer.TheVariants.{Ok, Fail, Pend}
use Rattle.pnp_laws.specs.Effects.{Turn}
use Rattle.pnp_laws.specs.Kept.{Ascending}
use Rattle.pnp_laws.specs.Words.{IsNoJoin}
use Rattle.pnp_laws.proofs.Lists.{head_found}
use Rattle.pnp_laws.proofs.Lookups.{left_from}
use Rattle.pnp_laws.proofs.Finishing.{Listed, relist_only}
use Rattle.pnp_laws.proofs.Stages.{Asks, asking, reply}
use Rattle.pnp_laws.proofs.Measures.{Falls, falls_coarse, coarse, coarse_on, coarse_by, coarse_weighed, tasks_less, tasks_cost, tasks_pushed, sum, phase_cost, phase_less, is_open, is_target, target_in, open_same, born_in, operation_cost, cost_in, operation_less, rebalance_cost, rank_of, rank_in, removal_rank, surprise_rank, finish_rank, left_of, left_in, removal_left, surprise_left, answers, answers_of, SameBirths, births_same, weight_in, weight_less}
use Rattle.pnp_laws.proofs.Weights.{Lighter, lighter_same, node_more, node_weight, told_weight, weigh, weigh_left, weigh_less, weigh_more}
use Rattle.pnp_model.specs.Rebalances as re

-- By the first number that is lower ---------------------------------------------------------------------

pub falls_rank : (s t : State) → coarse t ≤ coarse s → rank_of t.operation < rank_of s.operation → Falls s t
falls_rank s t a b = record { lower = inl (two (coarse t) (coarse s) (rank_of t.operation) (rank_of s.operation) a b) }
  where
    two : (x y a b : ℕ) → x ≤ y → a < b → 8 * x + a < 8 * y + b
    two x y a b h g = omega arith

under : (x y a b : ℕ) → x ≤ y → a ≤ b → 8 * x + a ≤ 8 * y + b
under x y a b h g = omega arith

pub falls_left : (s t : State) → coarse t ≤ coarse s → rank_of t.operation ≤ rank_of s.operation → left_of t.operation < left_of s.operation → Falls s t
falls_left s t a b c = record { lower = inr (under (coarse t) (coarse s) (rank_of t.operation) (rank_of s.operation) a b, inl c) }

pub falls_answers : (s t : State) → coarse t ≤ coarse s → rank_of t.operation ≤ rank_of s.operation → left_of t.operation ≤ left_of s.operation → answers_of t.core.nodes t.activities t.operation < answers_of s.core.nodes s.activities s.operation → Falls s t
falls_answers s t a b c d = record { lower = inr (under (coarse t) (coarse s) (rank_of t.operation) (rank_of s.operation) a b, inr (c, d)) }

-- Walks -------------------------------------------------------------------------------------------------

not_ended : (b : Bool) (n m : ℕ) → (b || nat_le n m) ≡ false → m < n
not_ended true n m h = absurd (cc)
not_ended false n m h = grind (arith, nat_tests)

answers_now : (w : Walk) (n : ℕ) → w.waits ≡ false → answers (Some w) n ≡ 2 * (n - w.asked) + 1
answers_now w n e = ap (λ (b : Bool). 2 * (n - w.asked) + cond b 0 1) e

-- an ask leaves less to answer
pub asked_less : (w : Walk) (answer : Answer) (n : ℕ) → w.waits ≡ false → has_ended w n ≡ false → answers (Some (after w answer)) n < answers (Some w) n
asked_less w Ok n e h = let l = not_ended (is_bad w) n w.asked h in let c = answers_now w n e in omega arith
asked_less w Fail n e h = let l = not_ended (is_bad w) n w.asked h in let c = answers_now w n e in omega arith
asked_less w Pend n e h = let c = answers_now w n e in omega arith

-- Lists --------------------------------------------------------------------------------------------------

pub rest_shorter : (nodes : List Node) (todo : List ℕ) (node : Node) → first_node nodes todo ≡ Some node → length (rest todo) + 1 ≡ length todo
rest_shorter nodes [] node first = absurd (cc)
rest_shorter nodes (k ∷ ks) node first = omega arith

either_shorter : {A : Type 0} (b : Bool) (xs ys : List A) (n : ℕ) → length xs ≤ n → length ys ≤ n → length (cond b xs ys) ≤ n
either_shorter true xs ys n h g = h
either_shorter false xs ys n h g = g

pub those_shorter : {A : Type 0} (test : A → Bool) (xs : List A) → length (those test xs) ≤ length xs
those_shorter test [] = omega arith
those_shorter test (x ∷ xs) = let more = those_shorter test xs in either_shorter (test x) (x ∷ those test xs) (those test xs) (length (x ∷ xs)) (omega arith) (omega arith)

pub startable_shorter : (nodes : List Node) (ks : List ℕ) → length (re.startable nodes ks) ≤ length ks
startable_shorter nodes [] = omega arith
startable_shorter nodes (k ∷ ks) = let more = startable_shorter nodes ks in either_shorter (stands_up nodes k) (k ∷ ks) (re.startable nodes ks) (length (k ∷ ks)) (omega arith) (omega arith)

-- An operation that goes on ----------------------------------------------------------------------------

-- at a lower rank, or at most at the same with less left
abbrev pub Down : ℕ → ℕ → ℕ → ℕ → Type 0
Down a b x y = (a < b) ⊎ ((a ≤ b) × (x < y))

-- the operation stays of its course
pub record OfCourse (course : Course) (o p : Job) : Type 0 where
  pub own : course_of o.kind ≡ course
  pub kind : p.kind ≡ o.kind

-- births, world, tasks and activities stay, and no device is heavier
pub falls_on : (course : Course) (s t : State) (o p : Job) → OfCourse course o p → t.operation ≡ Some p → SameBirths s.core.nodes t.core.nodes → t.world ≡ s.world → Lighter s.core.nodes t.core.nodes → t.tasks ≡ s.tasks → t.activities ≡ s.activities → ((k : ℕ) → target_in course p k ≡ target_in course o k) →
    cost_in (born_in s) course p ≤ cost_in (born_in s) course o → Down (rank_in course p) (rank_in course o) (left_in course p) (left_in course o) → Falls (set_operation (Some o) s) t
falls_on course s t o p of now same world light tasks acts target cost down =
    let u = set_operation (Some o) s in
    let own = of.own in
    let new = ap course_of of.kind ∙ of.own in
    let a = ap (λ (x : Course). cost_in (born_in s) x o) own in
    let d = ap (operation_cost (born_in s)) now ∙ ap (λ (x : Course). cost_in (born_in s) x p) new in
    let most = coarse_on u t same world light tasks acts (λ k. ap (λ (x : Option Job). is_target x k) now ∙ ap (λ (x : Course). target_in x p k) new ∙ target k ∙ ap (λ (x : Course). target_in x o k) (sym own)) (omega arith) in
    let b0 = ap (λ (x : Course). rank_in x o) own in
    let b = ap rank_of now ∙ ap (λ (x : Course). rank_in x p) new in
    let y0 = ap (λ (x : Course). left_in x o) own in
    let y = ap left_of now ∙ ap (λ (x : Course). left_in x p) new in
    elim down [ inl l ↦ falls_rank u t most (omega arith) | inr (l, less) ↦ falls_left u t most (omega arith) (omega arith) ]

-- an answer leaves all numbers but what is still to answer
module _ (o : Job) (walk : Option Walk) where
  same_cost : (born : ℕ → Bool) (course : Course) → cost_in born course (record o { walk = walk }) ≡ cost_in born course o
  same_cost born Course.Rebalancing = by_stage o.stage
    where
      by_stage : (stage : Stage) → rebalance_cost (record o { walk = walk }) stage ≡ rebalance_cost o stage
      by_stage Stage.Asking = refl
      by_stage _ = refl
  same_cost born _ = refl

  same_rank : (course : Course) → rank_in course (record o { walk = walk }) ≡ rank_in course o
  same_rank Course.Rebalancing = refl
  same_rank _ = refl

  same_left : (course : Course) → left_in course (record o { walk = walk }) ≡ left_in course o
  same_left Course.Rebalancing = refl
  same_left _ = refl

  same_target : (k : ℕ) (course : Course) → target_in course (record o { walk = walk }) k ≡ target_in course o k
  same_target k Course.Surprising = refl
  same_target k _ = refl

pub falls_asking : (s : State) (o : Job) (node : Node) (w : Walk) → Ascending 0 s.core.nodes → Asks s o node w → Falls (set_operation (Some o) s) (asking s o node w).state
falls_asking s o node w order asks =
    let u = set_operation (Some o) s in
    let t = (asking s o node w).state in
    let v = after w (reply s.core node w) in
    let less = asked_less w (reply s.core node w) (length node.stack) asks.waits (asks.more order) in
    let old : answers_of u.core.nodes u.activities u.operation ≡ answers (Some w) (length node.stack) =
    ap (λ (x : Option Walk). answers x (length (stack_of (first_node s.core.nodes o.todo)))) asks.walk ∙ ap (λ (x : Option Node). answers (Some w) (length (stack_of x))) asks.first in
    let new : answers_of t.core.nodes t.activities t.operation ≡ answers (Some v) (length node.stack) = ap (λ (x : Option Node). answers (Some v) (length (stack_of x))) asks.first in
    let a = same_cost o (Some v) (born_in s) (course_of o.kind) in
    let c = same_rank o (Some v) (course_of o.kind) in
    let e = same_left o (Some v) (course_of o.kind) in
    falls_answers u t (coarse_on u t (births_same s.core.nodes s.core.nodes refl) refl (lighter_same s.core.nodes s.core.nodes refl) refl refl (λ k. same_target o (Some v) k (course_of o.kind)) (omega arith)) (omega arith) (omega arith) (omega arith)

-- Where the next device of an operation is taken -------------------------------------------------------

-- what is lower than the operation after the turn is lower than before it
sooner : (s t : State) (o p : Job) → coarse (set_operation (Some p) s) ≤ coarse (set_operation (Some o) s) → Down (rank_of (Some p)) (rank_of (Some o)) (left_of (Some p)) (left_of (Some o)) → Falls (set_operation (Some p) s) t → Falls (set_operation (Some o) s) t
sooner s t o p most down falls =
    record {
      lower = by_down (8 * coarse t + rank_of t.operation) (coarse (set_operation (Some p) s)) (coarse (set_operation (Some o) s)) (rank_of (Some p)) (rank_of (Some o)) (left_of t.operation) (left_of (Some p)) (left_of (Some o)) most down falls.lower;
    }
  where
    by_down : {B C : Type 0} (a x y b c l m n : ℕ) → x ≤ y → Down b c m n → (a < 8 * x + b) ⊎ ((a ≤ 8 * x + b) × ((l < m) ⊎ ((l ≤ m) × B))) → (a < 8 * y + c) ⊎ ((a ≤ 8 * y + c) × ((l < n) ⊎ ((l ≤ n) × C)))
    by_down a x y b c l m n h (inl less) (inl low) = inl (omega arith)
    by_down a x y b c l m n h (inl less) (inr (low, rest)) = inl (omega arith)
    by_down a x y b c l m n h (inr (same, less)) (inl low) = inl (omega arith)
    by_down a x y b c l m n h (inr (same, less)) (inr (low, inl g)) = inr (omega arith, inl (omega arith))
    by_down a x y b c l m n h (inr (same, less)) (inr (low, inr (g, rest))) = inr (omega arith, inl (omega arith))

sooner_in : (course : Course) (s t : State) (o p : Job) → OfCourse course o p → ((k : ℕ) → target_in course p k ≡ target_in course o k) → cost_in (born_in s) course p ≤ cost_in (born_in s) course o → Down (rank_in course p) (rank_in course o) (left_in course p) (left_in course o)
    → Falls (set_operation (Some p) s) t → Falls (set_operation (Some o) s) t
sooner_in course s t o p of target cost down falls =
    let own = of.own in
    let new = ap course_of of.kind ∙ of.own in
    let a = ap (λ (x : Course). cost_in (born_in s) x o) own in
    let d = ap (λ (x : Course). cost_in (born_in s) x p) new in
    let most = coarse_on (set_operation (Some o) s) (set_operation (Some p) s) (births_same s.core.nodes s.core.nodes refl) refl (lighter_same s.core.nodes s.core.nodes refl) refl refl
    (λ k. ap (λ (x : Course). target_in x p k) new ∙ target k ∙ ap (λ (x : Course). target_in x o k) (sym own)) (omega arith) in
    let b0 = ap (λ (x : Course). rank_in x o) own in
    let b = ap (λ (x : Course). rank_in x p) new in
    let y0 = ap (λ (x : Course). left_in x o) own in
    let y = ap (λ (x : Course). left_in x p) new in
    sooner s t o p most (elim down [ inl l ↦ inl (omega arith) | inr (l, less) ↦ inr (omega arith, omega arith) ]) falls

-- a turn leaves less to do
pub falls_turned : (s t : State) (o p : Job) → Turn s o p → Falls (set_operation (Some p) s) t → Falls (set_operation (Some o) s) t
falls_turned s t _ _ (Turn.same o) falls = falls
falls_turned s t _ _ (Turn.queries o node course is idle first asks) falls =
    let a = ap removal_rank is in
    let b = ap (removal_left o.todo) is in
    sooner_in Course.Removing s t o _ (record { own = course; kind = refl }) (λ k. refl) (omega arith) (inr (omega arith, omega arith)) falls
falls_turned s t _ _ (Turn.removes o node d ds course is idle first goes full) falls =
    let a = ap surprise_rank is in
    let b = ap (surprise_left o.todo) is in
    sooner_in Course.Surprising s t o _ (record { own = course; kind = refl }) (λ k. refl) (omega arith) (inr (omega arith, omega arith)) falls
falls_turned s t _ _ (Turn.settles o node course is idle first goes none) falls =
    let a = ap surprise_rank is in
    let b = ap (surprise_left o.todo) is in
    sooner_in Course.Surprising s t o _ (record { own = course; kind = refl }) (λ k. refl) (omega arith) (inr (omega arith, omega arith)) falls
falls_turned s t _ _ (Turn.finishes f k node course is idle ready at) falls =
    let a = ap finish_rank is in
    sooner_in Course.Finishing s t f _ (record { own = course; kind = refl }) (λ k. refl) (omega arith) (inl (omega arith)) falls

-- A device leaves --------------------------------------------------------------------------------------

-- the world only loses devices
fewer_born : (gone : List ℕ) (world : List Device) (born : ℕ) → is_in_world (without_those gone world) born ≡ true → is_in_world world born ≡ true
fewer_born gone [] born h = h
fewer_born gone (d ∷ ds) born h = by_test (has gone d.born || has gone d.parent) h (fewer_born (d.born ∷ gone) ds born) (fewer_born gone ds born)
  where
    or_more : (x y z : Bool) → (y ≡ true → z ≡ true) → (x || y) ≡ true → (x || z) ≡ true
    or_more true y z f g = refl
    or_more false y z f g = f g

    or_right : (x z : Bool) → z ≡ true → (x || z) ≡ true
    or_right true z g = refl
    or_right false z g = g

    by_test : (b : Bool) → is_in_world (cond b (without_those (d.born ∷ gone) ds) (d ∷ without_those gone ds)) born ≡ true →
        (is_in_world (without_those (d.born ∷ gone) ds) born ≡ true → is_in_world ds born ≡ true) → (is_in_world (without_those gone ds) born ≡ true → is_in_world ds born ≡ true) → is_in_world (d ∷ ds) born ≡ true
    by_test true g one two = or_right (d.born == born) (is_in_world ds born) (one g)
    by_test false g one two = or_more (d.born == born) (is_in_world (without_those gone ds) born) (is_in_world ds born) two g

length_left : (j : ℕ) (nodes : List Node) (n : Node) → node_at j nodes ≡ Some n → length (serials_of (without_first (is_node j) nodes)) + 1 ≡ length (serials_of nodes)
length_left j [] n at = absurd (cc)
length_left j (x ∷ xs) n at =
    elim (cases_eq x.serial j) [
      | inl e ↦
          let here : is_node j x ≡ true = grind (arith, nat_tests) in
          let now : length (serials_of (without_first (is_node j) (x ∷ xs))) ≡ length (serials_of xs) = ap (λ (b : Bool). length (serials_of (cond b xs (x ∷ without_first (is_node j) xs)))) here in
          omega arith
      | inr d ↦
          let there : is_node j x ≡ false = grind (arith, nat_tests) in
          let more = length_left j xs n (grind (arith, nat_tests)) in
          let now : length (serials_of (without_first (is_node j) (x ∷ xs))) ≡ suc (length (serials_of (without_first (is_node j) xs))) = ap (λ (b : Bool). length (serials_of (cond b xs (x ∷ without_first (is_node j) xs)))) there in
          omega arith
    ]

born_left : (old : List Device) (new : List Device) (j k : ℕ) (nodes : List Node) → Ascending 0 nodes → ((o : Option Node) → is_born new o ≡ true → is_born old o ≡ true) → is_born new (node_at k (without_first (is_node j) nodes)) ≡ true → is_born old (node_at k nodes) ≡ true
born_left old new j k nodes order world h = by_node (node_at k (without_first (is_node j) nodes)) refl (world (node_at k (without_first (is_node j) nodes)) h)
  where
    by_node : (o : Option Node) → node_at k (without_first (is_node j) nodes) ≡ o → is_born old (node_at k (without_first (is_node j) nodes)) ≡ true → is_born old (node_at k nodes) ≡ true
    by_node None e g = absurd (let z = ap (is_born old) e in cc)
    by_node (Some m) e g = ap (is_born old) (left_from j k nodes m order e).1 ∙ (sym (ap (is_born old) e) ∙ g)

sum_less : (n m : ℕ) (acts : List Activity) → n ≤ m → sum (λ a. phase_cost n a.phase) acts ≤ sum (λ a. phase_cost m a.phase) acts
sum_less n m [] l = omega arith
sum_less n m (a ∷ acts) l = let here = phase_less n m a.phase l in let more = sum_less n m acts l in omega arith

open_listed : (tasks more : List Task) (o p : Option Job) (k : ℕ) → Listed tasks more → is_target p k ≡ is_target o k → is_open more p k ≡ true → is_open tasks o k ≡ true
open_listed tasks more o p k (inl e) target h = open_same tasks more o p k e target h
open_listed tasks more o p k (inr (j, e)) target h =
    ap (λ (b : Bool). not (list_any (is_surprise_of k) tasks) && not b) (sym target)
    ∙ (ap (λ (b : Bool). not b && not (is_target p k)) (sym (pushed tasks)) ∙ (ap (λ (ts : List Task). not (list_any (is_surprise_of k) ts) && not (is_target p k)) (sym e) ∙ h))
  where
    pushed : (ts : List Task) → list_any (is_surprise_of k) (ts ++ record { kind = Duty.Listing; serial = j } ∷ []) ≡ list_any (is_surprise_of k) ts
    pushed [] = refl
    pushed (t ∷ ts) = ap (λ (b : Bool). is_surprise_of k t || b) (pushed ts)

listed_cost : (n : ℕ) (born : ℕ → Bool) (tasks more : List Task) → Listed tasks more → tasks_cost n born more ≤ tasks_cost n born tasks + 1
listed_cost n born tasks more (inl e) = let z = ap (tasks_cost n born) e in omega arith
listed_cost n born tasks more (inr (k, e)) =
    let z = ap (tasks_cost n born) e in
    let p = tasks_pushed n born tasks (record { kind = Duty.Listing; serial = k }) in
    omega arith

-- a device left, and its parent may be listed again
coarse_left : (s t : State) (j : ℕ) (node : Node) → Ascending 0 s.core.nodes → node_at j s.core.nodes ≡ Some node → t.core.nodes ≡ without_first (is_node j) s.core.nodes → Lighter s.core.nodes t.core.nodes → ((o : Option Node) → is_born t.world o ≡ true → is_born s.world o ≡ true) → Listed s.tasks t.tasks → t.activities ≡ s.activities →
    ((k : ℕ) → is_target t.operation k ≡ is_target s.operation k) → operation_cost (born_in s) t.operation ≤ operation_cost (born_in s) s.operation → coarse t < coarse s
coarse_left s t j node order at nodes light world tasks acts target cost =
    let n = length_left j s.core.nodes node at in
    let m : length (serials_of t.core.nodes) ≡ length (serials_of (without_first (is_node j) s.core.nodes)) = ap (λ (x : List Node). length (serials_of x)) nodes in
    let born : (k : ℕ) → born_in t k ≡ true → born_in s k ≡ true = λ k h. born_left s.world t.world j k s.core.nodes order world (sym (ap (λ (x : List Node). is_born t.world (node_at k x)) nodes) ∙ h) in
    let a0 = weigh_less (weight_in t) (weight_in s) (serials_of (without_first (is_node j) s.core.nodes)) (λ k. weight_less s t light k (open_listed s.tasks t.tasks s.operation t.operation k tasks (target k))) in
    let a1 = weigh_left (weight_in s) j s.core.nodes in
    let a2 = ap (λ (x : List Node). weigh (weight_in t) (serials_of x)) nodes in
    let b0 = tasks_less (length (serials_of t.core.nodes)) (length (serials_of s.core.nodes)) (born_in t) (born_in s) t.tasks (omega arith) born in
    let b1 = listed_cost (length (serials_of s.core.nodes)) (born_in s) s.tasks t.tasks tasks in
    let c0 = sum_less (length (serials_of t.core.nodes)) (length (serials_of s.core.nodes)) t.activities (omega arith) in
    let c1 = ap (λ (xs : List Activity). sum (λ a. phase_cost (length (serials_of s.core.nodes)) a.phase) xs) acts in
    let d = operation_less (born_in t) (born_in s) t.operation born in
    omega arith

pub falls_leaves : (course : Course) (s t : State) (o p : Job) (node : Node) → OfCourse course o p → Ascending 0 s.core.nodes → first_node s.core.nodes o.todo ≡ Some node → t.operation ≡ Some p → t.core.nodes ≡ without_first (is_node node.serial) s.core.nodes → Lighter s.core.nodes t.core.nodes →
    ((x : Option Node) → is_born t.world x ≡ true → is_born s.world x ≡ true) → Listed s.tasks t.tasks → t.activities ≡ s.activities → ((k : ℕ) → target_in course p k ≡ target_in course o k) → cost_in (born_in s) course p ≤ cost_in (born_in s) course o → Falls (set_operation (Some o) s) t
falls_leaves course s t o p node of order first now nodes light world tasks acts target cost =
    let u = set_operation (Some o) s in
    let own = of.own in
    let new = ap course_of of.kind ∙ of.own in
    falls_coarse u t (coarse_left u t node.serial node order (head_found s.core.nodes o.todo node first).1 nodes light world tasks acts
    (λ k. ap (λ (x : Option Job). is_target x k) now ∙ ap (λ (x : Course). target_in x p k) new ∙ target k ∙ ap (λ (x : Course). target_in x o k) (sym own))
    (let a = ap (operation_cost (born_in s)) now ∙ ap (λ (x : Course). cost_in (born_in s) x p) new in let b = ap (λ (x : Course). cost_in (born_in s) x o) own in omega arith))

-- the world of a state after which the parent was listed again
pub same_in : (s u : State) (path : Text) (born : ℕ) → ((x : Option Node) → is_born u.world x ≡ true → is_born s.world x ≡ true) → (x : Option Node) → is_born (relist path born u).world x ≡ true → is_born s.world x ≡ true
same_in s u path born less x h = less x (sym (ap (λ (w : List Device). is_born w x) (relist_only path born u).world) ∙ h)

pub fewer_in : (gone : List ℕ) (world : List Device) (x : Option Node) → is_born (without_those gone world) x ≡ true → is_born world x ≡ true
fewer_in gone world None h = h
fewer_in gone world (Some n) h = fewer_born gone world n.born h

-- An operation closes ------------------------------------------------------------------------------------

-- nobody more can be found gone, and what begins costs less than the operation
pub falls_close : (course : Course) (s t : State) (o : Job) → course_of o.kind ≡ course → ((k : ℕ) → target_in course o k ≡ false) → t.core.nodes ≡ s.core.nodes → t.world ≡ s.world → t.tasks ≡ s.tasks → t.operation ≡ None →
    sum (λ a. phase_cost (length (serials_of s.core.nodes)) a.phase) t.activities < sum (λ a. phase_cost (length (serials_of s.core.nodes)) a.phase) s.activities + cost_in (born_in s) course o → Falls (set_operation (Some o) s) t
falls_close course s t o is target nodes world tasks none less =
    let u = set_operation (Some o) s in
    let a = ap (tasks_cost (length (serials_of s.core.nodes)) (born_in s)) tasks in
    let b = ap (operation_cost (born_in s)) none in
    let c = ap (λ (x : Course). cost_in (born_in s) x o) is in
    falls_coarse u t (coarse_by u t (births_same s.core.nodes t.core.nodes nodes) world (lighter_same s.core.nodes t.core.nodes nodes)
    (λ k h. open_same s.tasks t.tasks (Some o) t.operation k tasks (ap (λ (x : Option Job). is_target x k) none ∙ sym (ap (λ (x : Course). target_in x o k) is ∙ target k)) h) (omega arith))

-- only the target may be found gone again
open_target : (s t : State) (o : Job) → course_of o.kind ≡ Course.Surprising → t.operation ≡ None → t.tasks ≡ s.tasks → (k : ℕ) → k ≢ o.target → is_open t.tasks t.operation k ≡ true → is_open s.tasks (Some o) k ≡ true
open_target s t o course none tasks k other h =
    let out : (o.target == k) ≡ false = grind (arith, nat_tests) in
    let target : is_target t.operation k ≡ is_target (Some o) k = ap (λ (x : Option Job). is_target x k) none ∙ sym (ap (λ (x : Course). target_in x o k) course ∙ out) in
    open_same s.tasks t.tasks (Some o) t.operation k tasks target h

-- the target is in the world, has left, or was told that it has gone
abbrev pub TargetOver : State → ℕ → Type 0
TargetOver s k = (born_in s k ≡ true) ⊎ ((node_at k s.core.nodes ≡ None) ⊎ ((n : Node) × (node_at k s.core.nodes ≡ Some n) × (n.state ≡ SurpriseRemoved)))

pub falls_over : (s t : State) (o : Job) → course_of o.kind ≡ Course.Surprising → Ascending 0 s.core.nodes → TargetOver s o.target → t.operation ≡ None → t.core.nodes ≡ s.core.nodes → t.world ≡ s.world → t.tasks ≡ s.tasks → t.activities ≡ s.activities → Falls (set_operation (Some o) s) t
falls_over s t o course order target none nodes world tasks acts =
    let u = set_operation (Some o) s in
    let a = ap (tasks_cost (length (serials_of s.core.nodes)) (born_in s)) tasks in
    let b = ap (operation_cost (born_in s)) none in
    let c = ap (λ (xs : List Activity). sum (λ a. phase_cost (length (serials_of s.core.nodes)) a.phase) xs) acts in
    let l = coarse_weighed u t (births_same s.core.nodes t.core.nodes nodes) world in
    let is = ap (λ (x : Course). cost_in (born_in s) x o) course in
    let d = some (born_in s o.target) in
    elim target [
      | inl born ↦
          let w = weigh_more (weight_in t) (weight_in u) o.target 3 0 s.core.nodes order others (at_target 3 (node_more (is_open t.tasks t.operation o.target) (is_open s.tasks (Some o) o.target) (node_at o.target s.core.nodes))) in
          let e : operation_cost (born_in s) (Some o) ≡ 5 = is ∙ ap (λ (b : Bool). cond b 5 1) born in
          falls_coarse u t (omega arith)
      | inr (inl gone) ↦
          let w = weigh_more (weight_in t) (weight_in u) o.target 0 0 s.core.nodes order others (at_target 0 (subst (λ (x : Option Node). node_weight (is_open t.tasks t.operation o.target) x ≤ node_weight (is_open s.tasks (Some o) o.target) x + 0) (sym gone) (omega arith))) in
          falls_coarse u t (omega arith)
      | inr (inr (n, at, told)) ↦
          let m = told_weight (is_open t.tasks t.operation o.target) (is_open s.tasks (Some o) o.target) (node_at o.target s.core.nodes) n at told in
          let w = weigh_more (weight_in t) (weight_in u) o.target 0 0 s.core.nodes order others (at_target 0 (omega arith)) in
          falls_coarse u t (omega arith)
    ]
  where
    at_target : (d : ℕ) → node_weight (is_open t.tasks t.operation o.target) (node_at o.target s.core.nodes) ≤ node_weight (is_open s.tasks (Some o) o.target) (node_at o.target s.core.nodes) + d
        → weight_in t o.target ≤ node_weight (is_open s.tasks (Some o) o.target) (node_at o.target s.core.nodes) + d
    at_target d h = subst (λ (x : List Node). node_weight (is_open t.tasks t.operation o.target) (node_at o.target x) ≤ node_weight (is_open s.tasks (Some o) o.target) (node_at o.target s.core.nodes) + d) (sym nodes) h

    others : (k : ℕ) → k ≢ o.target → weight_in t k ≤ node_weight (is_open s.tasks (Some o) k) (node_at k s.core.nodes)
    others k other = weight_less (set_operation (Some o) s) t (lighter_same s.core.nodes t.core.nodes nodes) k (open_target s t o course none tasks k other)

    some : (b : Bool) → 1 ≤ cond b 5 1
    some true = omega arith
    some false = omega arith

-- Each step but a join ------------------------------------------------------------------------------------

pub record Lowers (s : State) (step : Step) : Type 0 where
  pub lowers : IsNoJoin step.label → Falls s step.state

pub lower_so : (s : State) (step : Step) → Falls s step.state → Lowers s step
lower_so s step h = record { lowers = λ n. h }
