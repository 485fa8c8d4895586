-- What each state of a run keeps so that at rest each device is up without a problem, down with one, or gone.
use Rattle.std.proofs.Common.{ℕ, ◌<◌, ◌≡◌, ◌≢◌, ◌⊎◌, ◌==◌, ◌&&◌, inl, inr, Bool, true, false, List, [], ◌∷◌, ◌++◌, drop, Option, Some, None, Contains, refl, sym, ap, subst}
use Rattle.std.specs.List.{list_any, slice_get}
use Rattle.resource_reqs.specs.Resources.{Reqs, Whole}
use Rattle.pnp_labels.specs.declared.label.OpKind.{OpKind}
use Rattle.pnp_labels.specs.declared.states.DevState.{DevState}
use Rattle.pnp_labels.specs.declared.states.DevState.TheVariants.{NoStack, NotStarted, Started, StopPending, Stopped, RemovePending, SurpriseRemoved}
use Rattle.pnp_model.specs.Cores.{node_at}
use Rattle.pnp_model.specs.Records.{Activity, Course, Duty, Found, Job, Node, Phase, Stage, State, Task, course_of}
use Rattle.pnp_model.specs.States.{activity_at, is_in_world}
use Rattle.pnp_model.specs.Tests.{has, is_surprise_task}
use Rattle.pnp_laws.specs.Holdings.{has_plan}
use Rattle.pnp_laws.proofs.Lists.{HeadIs}
use Rattle.pnp_laws.proofs.Truths.{or_cases, or_left, or_right}

-- Tasks -------------------------------------------------------------------------------------------------

abbrev pub is_start_duty : Duty → Bool
is_start_duty Duty.Starting = true
is_start_duty _ = false

abbrev pub is_rebalance_duty : Duty → Bool
is_rebalance_duty (Duty.Begins OpKind.Rebalance) = true
is_rebalance_duty _ = false

-- it starts the device
abbrev pub starts : ℕ → Task → Bool
starts k task = is_start_duty task.kind && task.serial == k

-- it makes room for the device
abbrev pub makes_room : ℕ → Task → Bool
makes_room k task = is_rebalance_duty task.kind && task.serial == k

module _ (p : Task → Bool) where
  pub any_pushed : (xs : List Task) (x : Task) → list_any p xs ≡ true → list_any p (xs ++ x ∷ []) ≡ true
  any_pushed [] x h = absurd (cc)
  any_pushed (y ∷ ys) x h =
      elim (or_cases (p y) (list_any p ys) h) [
        | inl e ↦ or_left (p y) (list_any p (ys ++ x ∷ [])) e
        | inr e ↦ or_right (p y) (list_any p (ys ++ x ∷ [])) (any_pushed ys x e)
      ]

  pub any_last : (xs : List Task) (x : Task) → p x ≡ true → list_any p (xs ++ x ∷ []) ≡ true
  any_last [] x h = or_left (p x) false h
  any_last (y ∷ ys) x h = or_right (p y) (list_any p (ys ++ x ∷ [])) (any_last ys x h)

  pub any_drop : (xs : List Task) (x : Task) → slice_get xs 0 ≡ Some x → p x ≡ false → list_any p xs ≡ true → list_any p (drop 1 xs) ≡ true
  any_drop [] x first other h = absurd (cc)
  any_drop (y ∷ ys) x first other h =
      elim (or_cases (p y) (list_any p ys) h) [
        | inl e ↦ absurd (let same : y ≡ x = cc in let q = ap p same in cc)
        | inr e ↦ e
      ]

-- What is due to a device -------------------------------------------------------------------------------

-- until its start is undone it has no problem, and then it has one
abbrev pub UnlessUndone : Phase → Node → Type 0
UnlessUndone (Phase.Removing w) n = n.problem ≢ None
UnlessUndone phase n = n.problem ≡ None

-- a rebalance runs for the device
abbrev pub IsTargetIn : Course → Option Reqs → ℕ → ℕ → Type 0
IsTargetIn Course.Rebalancing wanted target k = (wanted ≡ None) × (target ≡ k)
IsTargetIn _ wanted target k = ⊥

abbrev pub IsTarget : Option Job → ℕ → Type 0
IsTarget None k = ⊥
IsTarget (Some o) k = IsTargetIn (course_of o.kind) o.wanted o.target k

-- and is about to end without a plan
abbrev pub GivesUpIn : Course → Option Reqs → ℕ → Stage → Found → ℕ → Type 0
GivesUpIn Course.Rebalancing wanted target Stage.Ending found k = (wanted ≡ None) × (target ≡ k) × (has_plan found ≡ false)
GivesUpIn _ wanted target stage found k = ⊥

abbrev pub GivesUp : Option Job → ℕ → Type 0
GivesUp None k = ⊥
GivesUp (Some o) k = GivesUpIn (course_of o.kind) o.wanted o.target o.stage o.found k

-- where devices are started again, and after that, there is a plan
abbrev pub OpenIn : Course → Option Reqs → ℕ → Stage → Found → ℕ → Type 0
OpenIn Course.Rebalancing wanted target Stage.Restarting found k = wanted ≡ None → target ≡ k → has_plan found ≡ true
OpenIn Course.Rebalancing wanted target Stage.Failed found k = wanted ≡ None → target ≡ k → has_plan found ≡ true
OpenIn Course.Rebalancing wanted target Stage.Ending found k = wanted ≡ None → target ≡ k → has_plan found ≡ true
OpenIn _ wanted target stage found k = Unit {0}

abbrev pub Open : Option Job → ℕ → Type 0
Open None k = Unit {0}
Open (Some o) k = OpenIn (course_of o.kind) o.wanted o.target o.stage o.found k

-- the device was stopped, and is to be started again
abbrev pub RestartsIn : Course → Stage → List ℕ → List ℕ → ℕ → Type 0
RestartsIn Course.Rebalancing Stage.Stopping todo agreed k = has agreed k ≡ true
RestartsIn Course.Rebalancing Stage.Committing todo agreed k = has agreed k ≡ true
RestartsIn Course.Rebalancing Stage.Restarting todo agreed k = has todo k ≡ true
RestartsIn Course.Rebalancing Stage.Failed todo agreed k = has todo k ≡ true
RestartsIn _ stage todo agreed k = ⊥

abbrev pub Restarts : Option Job → ℕ → Type 0
Restarts None k = ⊥
Restarts (Some o) k = RestartsIn (course_of o.kind) o.stage o.todo o.agreed k

-- it is to be settled whether it leaves or stays with a problem
abbrev pub SettlesIn : Stage → List ℕ → ℕ → Type 0
SettlesIn Stage.Settling todo k = HeadIs k todo
SettlesIn Stage.Leaving todo k = HeadIs k todo
SettlesIn Stage.Holding todo k = HeadIs k todo
SettlesIn _ todo k = ⊥

abbrev pub Settles : Option Job → ℕ → Type 0
Settles None k = ⊥
Settles (Some o) k = SettlesIn o.stage o.todo k

-- Resources are sought for it: it needs some, and a rebalance for it is to come, or runs; or it holds them
pub record Seeks (tasks : List Task) (op : Option Job) (k : ℕ) (n : Node) : Type 0 where
  pub clean : n.problem ≡ None
  pub needs : Whole n.reqs [] → ⊥
  pub opens : Open op k
  pub sought : (n.holds ≢ []) ⊎ ((list_any (makes_room k) tasks ≡ true) ⊎ IsTarget op k)

abbrev pub Unstarted : List Task → Option Activity → Option Job → ℕ → Node → Type 0
Unstarted tasks None op k n = (GivesUp op k × (n.problem ≢ None)) ⊎ Seeks tasks op k n
Unstarted tasks (Some a) op k n = UnlessUndone a.phase n

-- without drivers it has a problem, or is to be started or settled
abbrev pub Undriven : List Task → Option Activity → Option Job → ℕ → Node → Type 0
Undriven tasks None op k n = (n.problem ≢ None) ⊎ ((list_any (starts k) tasks ≡ true) ⊎ Settles op k)
Undriven tasks (Some a) op k n = UnlessUndone a.phase n

abbrev pub FineOf : List Task → Option Activity → Option Job → ℕ → Node → DevState → Type 0
FineOf tasks act op k n NoStack = Undriven tasks act op k n
FineOf tasks act op k n NotStarted = Unstarted tasks act op k n
FineOf tasks act op k n Stopped = Restarts op k → n.problem ≡ None
FineOf tasks act op k n SurpriseRemoved = Unit {0}
FineOf tasks act op k n _ = n.problem ≡ None

-- each device is so
abbrev pub Fine : State → Type 0
Fine s = (k : ℕ) (n : Node) → node_at k s.core.nodes ≡ Some n → FineOf s.tasks (activity_at k s.activities) s.operation k n n.state

-- What of a change of the state a device is to know that stays as it is
pub record Onward (x : DevState) (tasks more : List Task) (act : Option Activity) (op next : Option Job) (k : ℕ) : Type 0 where
  pub starts_on : x ≡ NoStack → act ≡ None → list_any (starts k) tasks ≡ true → list_any (starts k) more ≡ true
  pub room_on : x ≡ NotStarted → act ≡ None → list_any (makes_room k) tasks ≡ true → (list_any (makes_room k) more ≡ true) ⊎ IsTarget next k
  pub target_on : IsTarget op k → IsTarget next k
  pub gives_on : GivesUp op k → GivesUp next k
  pub open_on : x ≡ NotStarted → Open op k → Open next k
  pub settles_on : Settles op k → Settles next k
  pub restarts_on : x ≡ Stopped → Restarts next k → Restarts op k

module _ (tasks more : List Task) (op next : Option Job) (k : ℕ) (n : Node) where
  unstarted_on : (act : Option Activity) → Onward NotStarted tasks more act op next k → Unstarted tasks act op k n → Unstarted more act next k n
  unstarted_on (Some a) on h = h
  unstarted_on None on (inl (gives, troubled)) = inl (on.gives_on gives, troubled)
  unstarted_on None on (inr seeks) = inr (record { clean = seeks.clean; needs = seeks.needs; opens = on.open_on refl seeks.opens; sought = elim seeks.sought [ inl holds ↦ inl holds | inr more_room ↦ inr (elim more_room [ inl due ↦ on.room_on refl refl due | inr runs ↦ inr (on.target_on runs) ]) ] })

  undriven_on : (act : Option Activity) → Onward NoStack tasks more act op next k → Undriven tasks act op k n → Undriven more act next k n
  undriven_on (Some a) on h = h
  undriven_on None on (inl troubled) = inl troubled
  undriven_on None on (inr (inl due)) = inr (inl (on.starts_on refl refl due))
  undriven_on None on (inr (inr settles)) = inr (inr (on.settles_on settles))

  pub onward : (act : Option Activity) (x : DevState) → Onward x tasks more act op next k → FineOf tasks act op k n x → FineOf more act next k n x
  onward act NoStack on h = undriven_on act on h
  onward act NotStarted on h = unstarted_on act on h
  onward act Stopped on h = λ restarts. h (on.restarts_on refl restarts)
  onward act SurpriseRemoved on h = h
  onward act Started on h = h
  onward act StopPending on h = h
  onward act RemovePending on h = h

-- A device that is up, or was stopped, has no problem
abbrev pub is_risen : DevState → Bool
is_risen Started = true
is_risen StopPending = true
is_risen Stopped = true
is_risen RemovePending = true
is_risen _ = false

pub fine_up : (tasks : List Task) (act : Option Activity) (op : Option Job) (k : ℕ) (n : Node) (x : DevState) → is_risen x ≡ true → n.problem ≡ None → FineOf tasks act op k n x
fine_up tasks act op k n Started up clean = clean
fine_up tasks act op k n StopPending up clean = clean
fine_up tasks act op k n Stopped up clean = λ restarts. clean
fine_up tasks act op k n RemovePending up clean = clean
fine_up tasks act op k n NoStack up clean = absurd (cc)
fine_up tasks act op k n NotStarted up clean = absurd (cc)
fine_up tasks act op k n SurpriseRemoved up clean = absurd (cc)

-- with a problem, a device without drivers is so
pub fine_bare : (tasks : List Task) (op : Option Job) (k : ℕ) (n : Node) (x : DevState) → x ≡ NoStack → n.problem ≢ None → FineOf tasks None op k n x
fine_bare tasks op k n NoStack is troubled = inl troubled
fine_bare tasks op k n NotStarted is troubled = absurd (cc)
fine_bare tasks op k n Started is troubled = absurd (cc)
fine_bare tasks op k n StopPending is troubled = absurd (cc)
fine_bare tasks op k n Stopped is troubled = absurd (cc)
fine_bare tasks op k n RemovePending is troubled = absurd (cc)
fine_bare tasks op k n SurpriseRemoved is troubled = absurd (cc)

-- by its state
pub fine_as : (tasks : List Task) (act : Option Activity) (op : Option Job) (k : ℕ) (n : Node) (x y : DevState) → x ≡ y → FineOf tasks act op k n x → FineOf tasks act op k n y
fine_as tasks act op k n x y e h = subst (λ (z : DevState). FineOf tasks act op k n z) e h

pub fine_back : (tasks : List Task) (act : Option Activity) (op : Option Job) (k : ℕ) (n : Node) (x y : DevState) → x ≡ y → FineOf tasks act op k n y → FineOf tasks act op k n x
fine_back tasks act op k n x y e h = subst (λ (z : DevState). FineOf tasks act op k n z) (sym e) h

-- Who is to be removed though its device is in the world -------------------------------------------------

-- where the device is in the world, it has a problem
pub record Failed (s : State) (k : ℕ) : Type 0 where
  pub low : k < s.next_serial
  pub troubled : (n : Node) → node_at k s.core.nodes ≡ Some n → is_in_world s.world n.born ≡ true → n.problem ≢ None

-- it is not in the world
pub record Gone (s : State) (k : ℕ) : Type 0 where
  pub low : k < s.next_serial
  pub outside : (n : Node) → node_at k s.core.nodes ≡ Some n → is_in_world s.world n.born ≡ false

pub gone_failed : (s : State) (k : ℕ) → Gone s k → Failed s k
gone_failed s k gone = record { low = gone.low; troubled = λ n at there. absurd (let out = gone.outside n at in cc) }

abbrev pub AllGone : State → List Task → Type 0
AllGone s tasks = (task : Task) → Contains tasks task → is_surprise_task task.kind ≡ true → Gone s task.serial

-- the surprise removals before all other tasks are of such devices, and those behind of devices that have gone
pub data Excused (s : State) : List Task → Type 0 where
  rest : (tasks : List Task) → AllGone s tasks → Excused s tasks
  first : (task : Task) (tasks : List Task) → is_surprise_task task.kind ≡ true → Failed s task.serial → Excused s tasks → Excused s (task ∷ tasks)

-- a surprise removal is of such a device too
abbrev pub TargetIn : State → Course → Job → Type 0
TargetIn s Course.Surprising o = Failed s o.target
TargetIn s _ o = Unit {0}

abbrev pub TargetFine : State → Option Job → Type 0
TargetFine s None = Unit {0}
TargetFine s (Some o) = TargetIn s (course_of o.kind) o

pub record Cared (s : State) : Type 0 where
  pub fine : Fine s
  pub tasks : Excused s s.tasks
  pub target : TargetFine s s.operation
