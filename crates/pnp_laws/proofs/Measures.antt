-- Numbers that each step lowers but a join: what is still to begin, what is still to do, what is still to answer.
use Rattle.std.proofs.Common.{ℕ, ◌+◌, ◌-◌, ◌*◌, ◌<◌, ◌≤◌, ◌≡◌, ◌==◌, ◌⊎◌, inl, inr, Bool, true, false, not, ◌&&◌, cond, List, [], ◌∷◌, ◌++◌, map, length, Option, Some, None, refl, sym, ap, ◌∙◌, subst, arith}
use Rattle.std.specs.List.{list_any}
use Rattle.std.specs.Option.{option_map}
use Rattle.std.proofs.lemmas.Bool.{cases_eq}
use Rattle.std.proofs.lemmas.Bool.Decides.{nat_tests}
use Rattle.pnp_model.specs.Keyed.{changed_first, without_first}
use Rattle.pnp_model.specs.Records.{Node, Device, Task, Activity, Phase, Walk, State, Duty, Course, Job, Stage, course_of}
use Rattle.pnp_model.specs.Cores.{is_node, node_at, serials_of, stack_of}
use Rattle.pnp_model.specs.States.{is_activity, activity_at, with_phase, is_above, entered, is_in_world}
use Rattle.pnp_model.specs.Tasks.{is_surprise_of}
use Rattle.pnp_model.specs.Frames.{first_node}
use Rattle.pnp_model.specs.Machine.{phase_walk, is_born}
use Rattle.pnp_labels.specs.declared.label.OpKind.{OpKind}
use Rattle.pnp_laws.proofs.Lookups.{node_changed_same, node_changed_other, node_at-map}
use Rattle.pnp_laws.proofs.Weights.{Lighter, node_less, node_weight, weigh, weigh_less}

-- What is still to begin ----------------------------------------------------------------------------

abbrev pub begin_cost : ℕ → Bool → OpKind → ℕ
begin_cost n born OpKind.Rebalance = 7 * n + 7
begin_cost n born OpKind.Disable = 2
begin_cost n born OpKind.Eject = 2
begin_cost n born OpKind.Surprise = cond born 6 2
begin_cost n born OpKind.Finish = 2
begin_cost n born OpKind.Change = 7 * n + 7

abbrev pub duty_cost : ℕ → Bool → Duty → ℕ
duty_cost n born Duty.Listing = 1
duty_cost n born Duty.Starting = 7 * n + 90
duty_cost n born (Duty.Begins kind) = begin_cost n born kind

abbrev pub tasks_cost : ℕ → (ℕ → Bool) → List Task → ℕ
tasks_cost n born [] = 0
tasks_cost n born (task ∷ tasks) = duty_cost n (born task.serial) task.kind + tasks_cost n born tasks

abbrev pub phase_cost : ℕ → Phase → ℕ
-- with its first driver the device weighs 4 more
phase_cost n (Phase.Adding drivers) = 7 * n + 9 + 5 * length drivers
phase_cost n Phase.Searching = 7 * n + 8
phase_cost n (Phase.Starting w) = 5
phase_cost n (Phase.Due problem) = 4
phase_cost n (Phase.Removing w) = 3

abbrev pub sum : (Activity → ℕ) → List Activity → ℕ
sum f [] = 0
sum f (a ∷ activities) = f a + sum f activities

abbrev pub rebalance_cost : Job → Stage → ℕ
rebalance_cost r Stage.Asking = 7 * (length r.todo + length r.agreed) + 6
rebalance_cost r Stage.TakingBack = 7 * (length r.todo + length r.agreed) + 6
rebalance_cost r Stage.Searching = 7 * length r.agreed + 6
rebalance_cost r Stage.Stopping = 7 * length r.agreed + 6
rebalance_cost r Stage.Committing = 7 * length r.agreed + 6
rebalance_cost r Stage.Restarting = 7 * length r.todo + 6
rebalance_cost r Stage.Failed = 7 * length r.todo + 6
rebalance_cost r _ = 6

abbrev pub cost_in : (ℕ → Bool) → Course → Job → ℕ
cost_in born Course.Rebalancing r = rebalance_cost r r.stage
cost_in born Course.Removing o = 1
cost_in born Course.Surprising o = cond (born o.target) 5 1
cost_in born Course.Finishing f = 1

abbrev pub operation_cost : (ℕ → Bool) → Option Job → ℕ
operation_cost born None = 0
operation_cost born (Some o) = cost_in born (course_of o.kind) o

-- the device of the surprise removal that runs
abbrev pub target_in : Course → Job → ℕ → Bool
target_in Course.Surprising o k = o.target == k
target_in _ o k = false

abbrev pub is_target : Option Job → ℕ → Bool
is_target None k = false
is_target (Some o) k = target_in (course_of o.kind) o k

-- it may still be found gone: no surprise removal of it waits or runs
abbrev pub is_open : List Task → Option Job → ℕ → Bool
is_open tasks operation k = not (list_any (is_surprise_of k) tasks) && not (is_target operation k)

-- what the device of a serial weighs
abbrev pub weight_in : State → ℕ → ℕ
weight_in s k = node_weight (is_open s.tasks s.operation k) (node_at k s.core.nodes)

abbrev pub coarse_of : (ℕ → ℕ) → List ℕ → (ℕ → Bool) → List Task → List Activity → Option Job → ℕ
coarse_of weight serials born tasks activities operation =
    2 * length serials + (weigh weight serials
    + (tasks_cost (length serials) born tasks + (sum (λ a. phase_cost (length serials) a.phase) activities + operation_cost born operation)))

abbrev pub born_in : State → ℕ → Bool
born_in s k = is_born s.world (node_at k s.core.nodes)

abbrev pub coarse : State → ℕ
coarse s = coarse_of (weight_in s) (serials_of s.core.nodes) (born_in s) s.tasks s.activities s.operation

-- What is still to do in an operation ----------------------------------------------------------------

abbrev pub rebalance_rank : Stage → ℕ
rebalance_rank Stage.Asking = 6
rebalance_rank Stage.TakingBack = 6
rebalance_rank Stage.Searching = 5
rebalance_rank Stage.Cancelling = 4
rebalance_rank Stage.Stopping = 4
rebalance_rank Stage.Committing = 3
rebalance_rank Stage.Stuck = 3
rebalance_rank Stage.Restarting = 2
rebalance_rank Stage.Failed = 2
rebalance_rank _ = 1

abbrev pub removal_rank : Stage → ℕ
removal_rank Stage.Next = 4
removal_rank Stage.Asking = 4
removal_rank Stage.TakingBack = 3
removal_rank Stage.Cancelling = 2
removal_rank Stage.Removing = 2
removal_rank Stage.Settling = 2
removal_rank _ = 1

abbrev pub surprise_rank : Stage → ℕ
surprise_rank Stage.Telling = 3
surprise_rank Stage.Next = 2
surprise_rank Stage.Removing = 2
surprise_rank Stage.Settling = 2
surprise_rank _ = 1

-- once its drivers are removed, the device is lighter, so the stage may be higher then
abbrev pub finish_rank : Stage → ℕ
finish_rank Stage.Next = 2
finish_rank Stage.Leaving = 3
finish_rank Stage.Holding = 3
finish_rank _ = 1

abbrev pub rank_in : Course → Job → ℕ
rank_in Course.Rebalancing r = rebalance_rank r.stage
rank_in Course.Removing o = removal_rank o.stage
rank_in Course.Surprising o = surprise_rank o.stage
rank_in Course.Finishing f = finish_rank f.stage

abbrev pub rank_of : Option Job → ℕ
rank_of None = 0
rank_of (Some o) = rank_in (course_of o.kind) o

abbrev pub rebalance_left : List ℕ → Stage → ℕ
rebalance_left todo Stage.Asking = 2 * length todo + 1
rebalance_left todo Stage.TakingBack = 2 * length todo
rebalance_left todo Stage.Cancelling = 2 * length todo
rebalance_left todo Stage.Stopping = 2 * length todo
rebalance_left todo Stage.Restarting = 2 * length todo + 1
rebalance_left todo Stage.Failed = 2 * length todo
rebalance_left todo _ = 0

abbrev pub removal_left : List ℕ → Stage → ℕ
removal_left todo Stage.Next = 2 * length todo + 1
removal_left todo Stage.Asking = 2 * length todo
removal_left todo Stage.Cancelling = 2 * length todo
removal_left todo Stage.Removing = 2 * length todo + 1
removal_left todo Stage.Settling = 2 * length todo
removal_left todo _ = 0

abbrev pub surprise_left : List ℕ → Stage → ℕ
surprise_left todo Stage.Telling = 2 * length todo
surprise_left todo Stage.Next = 3 * length todo + 2
surprise_left todo Stage.Removing = 3 * length todo + 1
surprise_left todo Stage.Settling = 3 * length todo
surprise_left todo _ = 0

abbrev pub left_in : Course → Job → ℕ
left_in Course.Rebalancing r = rebalance_left r.todo r.stage
left_in Course.Removing o = removal_left o.todo o.stage
left_in Course.Surprising o = surprise_left o.todo o.stage
left_in Course.Finishing f = 0

abbrev pub left_of : Option Job → ℕ
left_of None = 0
left_of (Some o) = left_in (course_of o.kind) o

-- What is still to answer ----------------------------------------------------------------------------

-- how many asks, and whether an answer is waited for
abbrev pub answers : Option Walk → ℕ → ℕ
answers None n = 0
answers (Some w) n = 2 * (n - w.asked) + cond w.waits 0 1

abbrev pub stack_at : List Node → ℕ → ℕ
stack_at nodes k = length (stack_of (node_at k nodes))

abbrev pub activity_answers : List Node → Activity → ℕ
activity_answers nodes a = answers (phase_walk a.phase) (stack_at nodes a.serial)

abbrev pub answers_of : List Node → List Activity → Option Job → ℕ
answers_of nodes activities None = sum (activity_answers nodes) activities
answers_of nodes activities (Some o) = answers o.walk (length (stack_of (first_node nodes o.todo)))

-- One is lower -----------------------------------------------------------------------------------------

abbrev pub IsLower : State → State → Type 0
IsLower s t =
    (8 * coarse t + rank_of t.operation < 8 * coarse s + rank_of s.operation)
    ⊎ ((8 * coarse t + rank_of t.operation ≤ 8 * coarse s + rank_of s.operation)
    × ((left_of t.operation < left_of s.operation)
    ⊎ ((left_of t.operation ≤ left_of s.operation)
    × (answers_of t.core.nodes t.activities t.operation < answers_of s.core.nodes s.activities s.operation))))

pub record Falls (s t : State) : Type 0 where
  pub lower : IsLower s t

rank_small : (o : Option Job) → rank_of o ≤ 7
rank_small None = omega arith
rank_small (Some o) = by_course (course_of o.kind)
  where
    rebalance : (stage : Stage) → rebalance_rank stage ≤ 7
    rebalance Stage.Asking = omega arith
    rebalance _ = omega arith

    removal : (stage : Stage) → removal_rank stage ≤ 7
    removal Stage.Next = omega arith
    removal _ = omega arith

    surprise : (stage : Stage) → surprise_rank stage ≤ 7
    surprise Stage.Telling = omega arith
    surprise _ = omega arith

    finish : (stage : Stage) → finish_rank stage ≤ 7
    finish Stage.Next = omega arith
    finish _ = omega arith

    by_course : (course : Course) → rank_in course o ≤ 7
    by_course Course.Rebalancing = rebalance o.stage
    by_course Course.Removing = removal o.stage
    by_course Course.Surprising = surprise o.stage
    by_course Course.Finishing = finish o.stage

-- less is to begin
pub falls_coarse : (s t : State) → coarse t < coarse s → Falls s t
falls_coarse s t h = record { lower = inl (eight (coarse t) (coarse s) (rank_of t.operation) (rank_of s.operation) h (rank_small t.operation)) }
  where
    eight : (x y a b : ℕ) → x < y → a ≤ 7 → 8 * x + a < 8 * y + b
    eight x y a b h l = omega arith

-- Sums over activities -----------------------------------------------------------------------------------

pub sum_changed : (f : Activity → ℕ) (k : ℕ) (phase : Phase) (acts : List Activity) (a : Activity) → activity_at k acts ≡ Some a → sum f (changed_first (is_activity k) (with_phase phase) acts) + f a ≡ sum f acts + f (with_phase phase a)
sum_changed f k phase [] a h = absurd (cc)
sum_changed f k phase (b ∷ acts) a h =
    elim (cases_eq b.serial k) [
      | inl e ↦
          let here : is_activity k b ≡ true = grind (arith, nat_tests) in
          let same : b ≡ a = grind (arith, nat_tests) in
          let f_same = ap f same in
          let g_same = ap (λ (x : Activity). f (with_phase phase x)) same in
          let now : sum f (changed_first (is_activity k) (with_phase phase) (b ∷ acts)) ≡ f (with_phase phase b) + sum f acts = ap (λ (x : Bool). sum f (cond x (with_phase phase b ∷ acts) (b ∷ changed_first (is_activity k) (with_phase phase) acts))) here in
          omega arith
      | inr d ↦
          let there : is_activity k b ≡ false = grind (arith, nat_tests) in
          let more = sum_changed f k phase acts a (grind (arith, nat_tests)) in
          let now : sum f (changed_first (is_activity k) (with_phase phase) (b ∷ acts)) ≡ f b + sum f (changed_first (is_activity k) (with_phase phase) acts) =
          ap (λ (x : Bool). sum f (cond x (with_phase phase b ∷ acts) (b ∷ changed_first (is_activity k) (with_phase phase) acts))) there in
          omega arith
    ]

pub sum_without : (f : Activity → ℕ) (k : ℕ) (acts : List Activity) (a : Activity) → activity_at k acts ≡ Some a → sum f (without_first (is_activity k) acts) + f a ≡ sum f acts
sum_without f k [] a h = absurd (cc)
sum_without f k (b ∷ acts) a h =
    elim (cases_eq b.serial k) [
      | inl e ↦
          let here : is_activity k b ≡ true = grind (arith, nat_tests) in
          let same : b ≡ a = grind (arith, nat_tests) in
          let f_same = ap f same in
          let now : sum f (without_first (is_activity k) (b ∷ acts)) ≡ sum f acts = ap (λ (x : Bool). sum f (cond x acts (b ∷ without_first (is_activity k) acts))) here in
          omega arith
      | inr d ↦
          let there : is_activity k b ≡ false = grind (arith, nat_tests) in
          let more = sum_without f k acts a (grind (arith, nat_tests)) in
          let now : sum f (without_first (is_activity k) (b ∷ acts)) ≡ f b + sum f (without_first (is_activity k) acts) = ap (λ (x : Bool). sum f (cond x acts (b ∷ without_first (is_activity k) acts))) there in
          omega arith
    ]

pub sum_entered : (f : Activity → ℕ) (a : Activity) (acts : List Activity) → sum f (entered a acts) ≡ f a + sum f acts
sum_entered f a [] = refl
sum_entered f a (b ∷ acts) = by_test (is_above a.serial b) (sum_entered f a acts)
  where
    by_test : (x : Bool) → sum f (entered a acts) ≡ f a + sum f acts → sum f (cond x (a ∷ b ∷ acts) (b ∷ entered a acts)) ≡ f a + (f b + sum f acts)
    by_test true h = refl
    by_test false h = omega arith

-- Sums over tasks ------------------------------------------------------------------------------------------

pub tasks_pushed : (n : ℕ) (born : ℕ → Bool) (tasks : List Task) (task : Task) → tasks_cost n born (tasks ++ task ∷ []) ≡ tasks_cost n born tasks + duty_cost n (born task.serial) task.kind
tasks_pushed n born [] task = omega arith
tasks_pushed n born (t ∷ tasks) task = let more = tasks_pushed n born tasks task in omega arith

begin_less : (n m : ℕ) (a b : Bool) (kind : OpKind) → n ≤ m → (a ≡ true → b ≡ true) → begin_cost n a kind ≤ begin_cost m b kind
begin_less n m true b OpKind.Surprise l h = subst (λ (x : Bool). 6 ≤ cond x 6 2) (sym (h refl)) (omega arith)
begin_less n m false true OpKind.Surprise l h = omega arith
begin_less n m false false OpKind.Surprise l h = omega arith
begin_less n m a b _ l h = omega arith

duty_less : (n m : ℕ) (a b : Bool) (duty : Duty) → n ≤ m → (a ≡ true → b ≡ true) → duty_cost n a duty ≤ duty_cost m b duty
duty_less n m a b Duty.Listing l h = omega arith
duty_less n m a b Duty.Starting l h = omega arith
duty_less n m a b (Duty.Begins kind) l h = begin_less n m a b kind l h

pub tasks_less : (n m : ℕ) (born was : ℕ → Bool) (tasks : List Task) → n ≤ m → ((k : ℕ) → born k ≡ true → was k ≡ true) → tasks_cost n born tasks ≤ tasks_cost m was tasks
tasks_less n m born was [] l h = omega arith
tasks_less n m born was (t ∷ tasks) l h =
    let more = tasks_less n m born was tasks l h in
    let here = duty_less n m (born t.serial) (was t.serial) t.kind l (h t.serial) in
    omega arith

pub phase_less : (n m : ℕ) (phase : Phase) → n ≤ m → phase_cost n phase ≤ phase_cost m phase
phase_less n m (Phase.Adding drivers) l = omega arith
phase_less n m _ l = omega arith

-- The same births --------------------------------------------------------------------------------------------

pub record SameBirths (old new : List Node) : Type 0 where
  pub serials : serials_of new ≡ serials_of old
  pub births : (world : List Device) (k : ℕ) → is_born world (node_at k new) ≡ is_born world (node_at k old)

pub births_same : (old new : List Node) → new ≡ old → SameBirths old new
births_same old new e = record { serials = ap serials_of e; births = λ world k. ap (λ (x : List Node). is_born world (node_at k x)) e }

serials_changed : (j : ℕ) (f : Node → Node) (nodes : List Node) → ((x : Node) → (f x).serial ≡ x.serial) → serials_of (changed_first (is_node j) f nodes) ≡ serials_of nodes
serials_changed j f [] keeps = refl
serials_changed j f (n ∷ ns) keeps = by_test (is_node j n) (serials_changed j f ns keeps)
  where
    by_test : (b : Bool) → serials_of (changed_first (is_node j) f ns) ≡ serials_of ns → serials_of (cond b (f n ∷ ns) (n ∷ changed_first (is_node j) f ns)) ≡ n.serial ∷ serials_of ns
    by_test true h = ap (λ (k : ℕ). k ∷ serials_of ns) (keeps n)
    by_test false h = ap (λ (ks : List ℕ). n.serial ∷ ks) h

born_mapped : (world : List Device) (f : Node → Node) (o : Option Node) → ((x : Node) → (f x).born ≡ x.born) → is_born world (option_map f o) ≡ is_born world o
born_mapped world f None keeps = refl
born_mapped world f (Some n) keeps = ap (is_in_world world) (keeps n)

pub births_changed : (j : ℕ) (f : Node → Node) (old new : List Node) → new ≡ changed_first (is_node j) f old → ((x : Node) → (f x).serial ≡ x.serial) → ((x : Node) → (f x).born ≡ x.born) → SameBirths old new
births_changed j f old new is keeps born =
    record {
      serials = ap serials_of is ∙ serials_changed j f old keeps;
      births = λ world k. ap (λ (x : List Node). is_born world (node_at k x)) is ∙ (elim (cases_eq j k) [
        | inl e ↦ subst (λ (i : ℕ). is_born world (node_at k (changed_first (is_node i) f old)) ≡ is_born world (node_at k old)) (sym e)
            (ap (is_born world) (node_changed_same k f old keeps) ∙ born_mapped world f (node_at k old) born)
        | inr d ↦ ap (is_born world) (node_changed_other j k f old keeps d)
      ]);
    }

serials_mapped : (f : Node → Node) (nodes : List Node) → ((x : Node) → (f x).serial ≡ x.serial) → serials_of (map f nodes) ≡ serials_of nodes
serials_mapped f [] keeps = refl
serials_mapped f (n ∷ ns) keeps = ap (λ (k : ℕ). k ∷ serials_of (map f ns)) (keeps n) ∙ ap (λ (ks : List ℕ). n.serial ∷ ks) (serials_mapped f ns keeps)

pub births_mapped : (f : Node → Node) (old new : List Node) → new ≡ map f old → ((x : Node) → (f x).serial ≡ x.serial) → ((x : Node) → (f x).born ≡ x.born) → SameBirths old new
births_mapped f old new is keeps born =
    record {
      serials = ap serials_of is ∙ serials_mapped f old keeps;
      births = λ world k. ap (λ (x : List Node). is_born world (node_at k x)) is ∙ (ap (is_born world) (node_at-map k f old keeps) ∙ born_mapped world f (node_at k old) born);
    }

-- What is to begin is no more ----------------------------------------------------------------------------------

pub operation_less : (born was : ℕ → Bool) (o : Option Job) → ((k : ℕ) → born k ≡ true → was k ≡ true) → operation_cost born o ≤ operation_cost was o
operation_less born was None h = omega arith
operation_less born was (Some o) h = by_course (course_of o.kind)
  where
    by_test : (a b : Bool) → (a ≡ true → b ≡ true) → cond a 5 1 ≤ cond b 5 1
    by_test true b g = subst (λ (x : Bool). 5 ≤ cond x 5 1) (sym (g refl)) (omega arith)
    by_test false true g = omega arith
    by_test false false g = omega arith

    by_course : (course : Course) → cost_in born course o ≤ cost_in was course o
    by_course Course.Surprising = by_test (born o.target) (was o.target) (h o.target)
    by_course _ = omega arith

-- what tasks, activities and operation of a state cost by the births of another, and what the devices of another weigh in it
abbrev pub costs : State → State → ℕ
costs s t = tasks_cost (length (serials_of s.core.nodes)) (born_in s) t.tasks + (sum (λ a. phase_cost (length (serials_of s.core.nodes)) a.phase) t.activities + operation_cost (born_in s) t.operation)

abbrev pub weights : State → State → ℕ
weights s t = weigh (weight_in t) (serials_of s.core.nodes)

-- where births stay, the rest tells
pub coarse_weighed : (s t : State) → SameBirths s.core.nodes t.core.nodes → t.world ≡ s.world → coarse t + (costs s s + weights s s) ≤ coarse s + (costs s t + weights s t)
coarse_weighed s t same world =
    let n : length (serials_of t.core.nodes) ≡ length (serials_of s.core.nodes) = ap (λ (ks : List ℕ). length ks) same.serials in
    let born : (k : ℕ) → born_in t k ≡ true → born_in s k ≡ true = λ k h. sym (ap (λ (w : List Device). is_born w (node_at k t.core.nodes)) world ∙ same.births s.world k) ∙ h in
    let a = ap (λ (ks : List ℕ). weigh (weight_in t) ks) same.serials in
    let b = tasks_less (length (serials_of t.core.nodes)) (length (serials_of s.core.nodes)) (born_in t) (born_in s) t.tasks (omega arith) born in
    let c : sum (λ a. phase_cost (length (serials_of t.core.nodes)) a.phase) t.activities ≡ sum (λ a. phase_cost (length (serials_of s.core.nodes)) a.phase) t.activities =
    ap (λ (m : ℕ). sum (λ a. phase_cost m a.phase) t.activities) n in
    let e = operation_less (born_in t) (born_in s) t.operation born in
    omega arith

-- no device is heavier, and none can be found gone that could not
pub weight_less : (s t : State) → Lighter s.core.nodes t.core.nodes → (k : ℕ) → (is_open t.tasks t.operation k ≡ true → is_open s.tasks s.operation k ≡ true) → weight_in t k ≤ weight_in s k
weight_less s t light k opens =
    let a = light.each k (is_open t.tasks t.operation k) in
    let b = node_less (is_open t.tasks t.operation k) (is_open s.tasks s.operation k) (node_at k s.core.nodes) opens in
    omega arith

pub coarse_no_more : (s t : State) → SameBirths s.core.nodes t.core.nodes → t.world ≡ s.world → Lighter s.core.nodes t.core.nodes → ((k : ℕ) → is_open t.tasks t.operation k ≡ true → is_open s.tasks s.operation k ≡ true) → coarse t + costs s s ≤ coarse s + costs s t
coarse_no_more s t same world light opens =
    let l = coarse_weighed s t same world in
    let c = weigh_less (weight_in t) (weight_in s) (serials_of s.core.nodes) (λ k. weight_less s t light k (opens k)) in
    omega arith

pub coarse_by : (s t : State) → SameBirths s.core.nodes t.core.nodes → t.world ≡ s.world → Lighter s.core.nodes t.core.nodes → ((k : ℕ) → is_open t.tasks t.operation k ≡ true → is_open s.tasks s.operation k ≡ true) → costs s t < costs s s → coarse t < coarse s
coarse_by s t same world light opens less = let l = coarse_no_more s t same world light opens in omega arith

-- tasks stay, and the target of a surprise removal
pub open_same : (tasks more : List Task) (o p : Option Job) (k : ℕ) → more ≡ tasks → is_target p k ≡ is_target o k → is_open more p k ≡ true → is_open tasks o k ≡ true
open_same tasks more o p k e target h =
    ap (λ (b : Bool). not (list_any (is_surprise_of k) tasks) && not b) (sym target) ∙ (ap (λ (ts : List Task). not (list_any (is_surprise_of k) ts) && not (is_target p k)) (sym e) ∙ h)

-- in an operation: births, tasks and activities stay, and the operation costs no more
pub coarse_on : (s t : State) → SameBirths s.core.nodes t.core.nodes → t.world ≡ s.world → Lighter s.core.nodes t.core.nodes → t.tasks ≡ s.tasks → t.activities ≡ s.activities → ((k : ℕ) → is_target t.operation k ≡ is_target s.operation k) →
    operation_cost (born_in s) t.operation ≤ operation_cost (born_in s) s.operation → coarse t ≤ coarse s
coarse_on s t same world light tasks acts target cost =
    let l = coarse_no_more s t same world light (λ k h. open_same s.tasks t.tasks s.operation t.operation k tasks (target k) h) in
    let a = ap (tasks_cost (length (serials_of s.core.nodes)) (born_in s)) tasks in
    let b = ap (λ (xs : List Activity). sum (λ a. phase_cost (length (serials_of s.core.nodes)) a.phase) xs) acts in
    omega arith
