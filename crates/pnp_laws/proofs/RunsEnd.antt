-- Each step of a run lowers the numbers, so a machine that is left alone comes to rest.
use Rattle.std.proofs.Common.{ℕ, zero, suc, ◌+◌, ◌*◌, ◌<◌, ◌≤◌, ◌≡◌, ◌⊎◌, inl, inr, List, [], ◌∷◌, length, Option, Some, None, true, refl, sym, subst, arith}
use native.Mathlib.Decide.{dec_lt}
use Rattle.pnp_model.specs.Records.{Node, State, Step, Settings, Doing, Job, Stage, Course, course_of}
use Rattle.pnp_model.specs.Cores.{node_at}
use Rattle.pnp_model.specs.States.{set_operation}
use Rattle.pnp_model.specs.Runs.{Entry, Run}
use Rattle.pnp_model.specs.Runs.Entry.{Happens, Did, Declines}
use Rattle.pnp_labels.specs.declared.label.Label.{Label}
use Rattle.pnp_laws.specs.Quiet.{Rests, RestsWith}
use Rattle.pnp_laws.proofs.EffectViews.{acting_at}
use Rattle.pnp_laws.proofs.EffectsOf.{effect_of}
use Rattle.pnp_laws.specs.Effects.{DriverEffect, IsUnasked, Running}
use Rattle.pnp_laws.specs.Kept.{FinishKeeps}
use Rattle.pnp_laws.specs.Words.{IsNoJoin}
use Rattle.pnp_laws.proofs.FinishingSteps.{head_taken}
use Rattle.pnp_laws.proofs.IdleSteps.{MachineStep, TaskStep, machine_step}
use Rattle.pnp_laws.proofs.Lists.{head_found}
use Rattle.pnp_laws.proofs.Stages.{TakenStep, own_step}
use Rattle.pnp_laws.proofs.Turns.{running_good}
use Rattle.pnp_laws.proofs.TurnsKept.{running_stage, running_told}
use Rattle.pnp_laws.proofs.Weights.{IsNoAdd, Lighter, lighter_follows}
use Rattle.pnp_laws.proofs.Standing.{SurpriseThere, SurpriseTold, kept_by, told_by}
use Rattle.pnp_laws.proofs.Measures.{Falls, coarse, rank_of, left_of, answers_of}
use Rattle.pnp_laws.specs.Ends.{AllSteps, Settles, ComesToRestLaw}
use Rattle.pnp_laws.proofs.RunsStep.{rests_or, nothing_next, doing_one}
use Rattle.pnp_model.proofs.Determined.{one_state}
use Rattle.pnp_laws.proofs.MeasureOps.{Lowers, TargetOver, falls_turned}
use Rattle.pnp_laws.proofs.MeasureStages.{EndsOver, Ready, ReadyIn, TakesTold, falls_operation}
use Rattle.pnp_laws.proofs.MeasureTasks.{falls_act}
use Rattle.pnp_laws.proofs.MeasureBegins.{lowers_task}
use Rattle.pnp_laws.proofs.RunsStand.{Kept, kept_goes, reaches_kept}
use Rattle.pnp_laws.proofs.JoinCounts.{join_price}
use Rattle.pnp_laws.proofs.Joins.{Born}
use Rattle.pnp_laws.proofs.JoinMachine.{knows_step, step_goes, reaches_born}
use Rattle.pnp_laws.proofs.JoinSteps.{Knows}
use Rattle.pnp_model.specs.Machine as ma
use Rattle.pnp_laws.proofs.FitsBy.{fits_by}

-- Each step but a join ---------------------------------------------------------------------------------

-- no device is heavier but one that a driver is added to
lighter_step : (s : State) (step : Step) → Knows s step → IsNoJoin step.label → IsNoAdd step.label → Lighter s.core.nodes step.state.core.nodes
lighter_step s step knows no_join none = lighter_follows step.label s.core.nodes step.state.core.nodes none (knows.sound.births no_join) knows.diagram

-- at the end of a surprise its target has left, or was told that it has gone
target_over : (s : State) (o : Job) (stage : Stage) → SurpriseThere o stage s.core.nodes → SurpriseTold s.core o stage → EndsOver s o stage
target_over s o Stage.Ending (inl gone) told = inr (inl gone)
target_over s o Stage.Ending (inr behind) told = by_node (node_at o.target s.core.nodes) refl
  where
    by_node : (x : Option Node) → node_at o.target s.core.nodes ≡ x → TargetOver s o.target
    by_node None e = inr (inl e)
    by_node (Some n) e = inr (inr (n, e, told.stayed o.target n behind e))
target_over s o _ there told = tt

-- the device whose drivers are removed in a finish was told that it has gone
takes_told : (s : State) (f : Job) (stage : Stage) → FinishKeeps f stage s.core.nodes → TakesTold s f stage
takes_told s f Stage.Removing keeps = λ node first. let head = head_found s.core.nodes f.todo node first in head_taken f.todo node.serial node.state head.0 (keeps.each node.serial node head.1)
takes_told s f _ keeps = tt

ready_for : (s : State) (o : Job) → Kept s → Running s o → Ready s o
ready_for s o kept runs = by_course (course_of o.kind) refl
  where
    by_course : (course : Course) → course_of o.kind ≡ course → ReadyIn course s o
    by_course Course.Surprising course = target_over s o o.stage (kept_by Course.Surprising o s.core course (running_stage s o runs kept)).1 (told_by Course.Surprising o s.core course (running_told s o runs kept))
    by_course Course.Finishing course = takes_told s o o.stage (fits_by Course.Finishing o s.core.nodes course (running_good s o runs kept.good).fits)
    by_course _ course = tt

-- an operation goes on by what comes next after its next device was taken
lowers_operation : (s : State) (o : Job) (step : Step) → Kept s → s.operation ≡ Some o → Lighter s.core.nodes step.state.core.nodes → TakenStep s o step → Falls s step.state
lowers_operation s o step kept runs light taken =
    let now : Running s taken.now = record { before = o; runs = runs; turn = taken.turn } in
    let falls = falls_operation s taken.now step kept.good.serials light (ready_for s taken.now kept now) (own_step s taken.now step (running_good s taken.now now kept.good).fits taken.is) in
    subst (λ (x : Option Job). Falls (set_operation x s) step.state) (sym runs) (falls_turned s step.state o taken.now taken.turn falls)

-- where a driver is added, no operation runs
unasked_adds : (label : Label) → IsUnasked label → IsNoAdd label
unasked_adds (Label.Add path name true) none = absurd none
unasked_adds _ none = tt

adds_idle : (s : State) (label : Label) (t : State) (o : Job) → s.operation ≡ Some o → DriverEffect s (Did label) t → IsNoAdd label
adds_idle s label t o runs (DriverEffect.same none e) = unasked_adds label none
adds_idle s label t o runs (DriverEffect.ended node minor w bad at request over verdict prints e) = subst IsNoAdd (sym prints) tt
adds_idle s label t o runs (DriverEffect.asked node w shown at more prints e) = subst IsNoAdd (sym prints) tt
adds_idle s label t o runs (DriverEffect.added node d ds acting prints e goes) = absurd (let none = acting.none in cc)
adds_idle s label t o runs (DriverEffect.refused node d ds acting prints e) = subst IsNoAdd (sym prints) tt
adds_idle s label t o runs (DriverEffect.named kind name other is none e) = unasked_adds label none
adds_idle s label t o runs (DriverEffect.taught name rule none e) = unasked_adds label none

task_adds : (s : State) (step : Step) → TaskStep s step → IsNoAdd step.label
task_adds s _ (TaskStep.misses k first gone) = tt
task_adds s _ _ = tt

pub lowers_step : (settings : Settings) (s : State) (step : Step) → Kept s → ma.IsStep settings (ma.next settings s) step → Lowers s step
lowers_step settings s step kept is = by_step step (knows_step settings s step kept is) (effect_of settings s step.label step.state is).drivers (machine_step settings s step is)
  where
    by_step : (x : Step) → Knows s x → DriverEffect s (Did x.label) x.state → MachineStep s x → Lowers s x
    by_step _ knows drivers (MachineStep.operates o x runs taken) = record { lowers = λ no_join. lowers_operation s o x kept runs (lighter_step s x knows no_join (adds_idle s x.label x.state o runs drivers)) taken }
    by_step _ knows drivers (MachineStep.starts node phase m at acting is) =
        let here = acting_at s node.serial phase kept.good.order acting in
        record {
          lowers = λ no_join. falls_act s node phase m (record { none = acting.none; activity = here.activity; there = here.at; is = here.is; at = at }) kept.good.serials (λ none. lighter_step s _ knows no_join none) is;
        }
    by_step _ knows drivers (MachineStep.does x none is) = lowers_task s x none kept.good.serials (λ no_join. lighter_step s x knows no_join (task_adds s x is)) is

-- Numbers that fall come to an end ----------------------------------------------------------------------

-- what holds of a number where it holds of all below
below : (P : ℕ → Type 0) → ((n : ℕ) → ((m : ℕ) → m < n → P m) → P n) → (n m : ℕ) → m < n → P m
below P step zero m l = absurd (omega arith)
below P step (suc n) m l = step m (λ k g. below P step n k (omega arith))

by_number : (P : ℕ → Type 0) → ((n : ℕ) → ((m : ℕ) → m < n → P m) → P n) → (n : ℕ) → P n
by_number P step n = below P step (suc n) n (omega arith)

less_or_same : (m n : ℕ) → m ≤ n → (m < n) ⊎ (m ≡ n)
less_or_same m n l = elim (dec_lt m n) [ yes h ↦ inl h | no h ↦ inr (omega arith) ]

-- three numbers, compared from the first on
abbrev pub Lower : ℕ → ℕ → ℕ → ℕ → ℕ → ℕ → Type 0
Lower a b c x y z = (a < x) ⊎ ((a ≤ x) × ((b < y) ⊎ ((b ≤ y) × (c < z))))

by_three : (P : ℕ → ℕ → ℕ → Type 0) → ((x y z : ℕ) → ((a b c : ℕ) → Lower a b c x y z → P a b c) → P x y z) → (x y z : ℕ) → P x y z
by_three P step =
    by_number (λ x. (y z : ℕ) → P x y z)
    (λ x first. by_number (λ y. (z : ℕ) → P x y z)
    (λ y second. by_number (λ z. P x y z)
    (λ z third. step x y z
    (λ a b c lower. elim lower [
      | inl l ↦ first a l b c
      | inr (l, more) ↦ elim (less_or_same a x l) [
        | inl g ↦ first a g b c
        | inr e ↦ subst (λ (i : ℕ). P i b c) (sym e) (elim more [
          | inl g ↦ second b g c
          | inr (g, last) ↦ elim (less_or_same b y g) [
            | inl q ↦ second b q c
            | inr q ↦ subst (λ (i : ℕ). P x i c) (sym q) (third c last)
          ]
        ])
      ]
    ]))))

abbrev pub first_of : State → ℕ
first_of s = 8 * coarse s + rank_of s.operation

abbrev pub last_of : State → ℕ
last_of s = answers_of s.core.nodes s.activities s.operation

-- of the states with these numbers
abbrev AllSettle : Settings → ℕ → ℕ → ℕ → ℕ → Type 0
AllSettle settings w x y z = (s : State) → Kept s → Born s → join_price s ≡ w → first_of s ≡ x → left_of s.operation ≡ y → last_of s ≡ z → Settles settings s

-- four numbers, compared from the first on: the price of the joins to come, and the three
abbrev pub Lowest : State → State → Type 0
Lowest t s = (join_price t < join_price s) ⊎ ((join_price t ≤ join_price s) × Lower (first_of t) (left_of t.operation) (last_of t) (first_of s) (left_of s.operation) (last_of s))

pub by_four : (P : ℕ → ℕ → ℕ → ℕ → Type 0) → ((w x y z : ℕ) → ((v a b c : ℕ) → (v < w) ⊎ ((v ≤ w) × Lower a b c x y z) → P v a b c) → P w x y z) → (w x y z : ℕ) → P w x y z
by_four P step =
    by_number (λ w. (x y z : ℕ) → P w x y z)
    (λ w first. by_three (P w)
    (λ x y z rest. step w x y z
    (λ v a b c lower. elim lower [
      | inl l ↦ first v l a b c
      | inr (l, more) ↦ elim (less_or_same v w l) [
        | inl g ↦ first v g a b c
        | inr e ↦ subst (λ (i : ℕ). P i a b c) (sym e) (rest a b c more)
      ]
    ])))

-- where it rests, no step follows
settles_here : (settings : Settings) (s : State) → Rests s → ((label : Label) (t : State) → ma.Steps settings s label t → ⊥) → Settles settings s
settles_here settings s rests none = record { bound = 0; within = by_run; steps = []; last = s; alone = tt; run = refl; rests = rests }
  where
    by_run : (more : List Entry) (last : State) → AllSteps more → Run settings s more last → length more ≤ 0
    by_run [] last all run = omega arith
    by_run (Happens event label ∷ rest) last all run = absurd all
    by_run (Did label ∷ rest) last all (mid, goes, run) = absurd (none label mid goes)
    by_run (Declines label ∷ rest) last all run = absurd all

one_follows : (settings : Settings) (s t : State) (label : Label) → ma.Steps settings s label t → Settles settings t → Settles settings s
one_follows settings s t label step h = record { bound = suc h.bound; within = by_run; steps = Did label ∷ h.steps; last = h.last; alone = h.alone; run = (t, step, h.run); rests = h.rests }
  where
    by_run : (more : List Entry) (last : State) → AllSteps more → Run settings s more last → length more ≤ suc h.bound
    by_run [] last all run = omega arith
    by_run (Happens event other ∷ rest) last all run = absurd all
    by_run (Did other ∷ rest) last all (mid, goes, run) =
        let same : mid ≡ t = one_state settings s other label mid t goes step in
        let l = h.within rest last all (subst (λ (x : State). Run settings x rest last) same run) in
        omega arith
    by_run (Declines other ∷ rest) last all run = absurd all

nothing_follows : (settings : Settings) (s : State) → RestsWith s s.operation → (label : Label) (t : State) → ma.Steps settings s label t → ⊥
nothing_follows settings s rests label t steps = subst (λ (o : Option (Doing Step)). ma.IsStep settings o (record { label = label; state = t })) (nothing_next settings s s.operation rests) steps

-- the next step lowers the numbers
pub lowest_step : (settings : Settings) (s t : State) (label : Label) → Kept s → Born s → ma.Steps settings s label t → Lowest t s
lowest_step settings s t label kept born steps =
    elim (step_goes settings s (record { label = label; state = t }) kept born steps).1 [
      | inl l ↦ inl l
      | inr (l, no_join) ↦ inr (l, ((lowers_step settings s (record { label = label; state = t }) kept steps).lowers no_join).lower)
    ]

settled_by : (settings : Settings) (s : State) → Kept s → Born s → ((t : State) → Kept t → Born t → Lowest t s → Settles settings t) → Settles settings s
settled_by settings s kept born below_s =
    elim (rests_or settings s s.operation refl kept) [
      | inl rests ↦ settles_here settings s rests (nothing_follows settings s rests)
      | inr next ↦
          let o = doing_one settings s next.0 next.1 in
          one_follows settings s o.next o.label o.steps
          (below_s o.next (kept_goes settings s (Did o.label) o.next kept o.steps) (step_goes settings s (record { label = o.label; state = o.next }) kept born o.steps).0 (lowest_step settings s o.next o.label kept born o.steps))
    ]

-- below a state with these numbers
pub at_numbers : (t s : State) (w x y z : ℕ) → join_price s ≡ w → first_of s ≡ x → left_of s.operation ≡ y → last_of s ≡ z → Lowest t s
    → (join_price t < w) ⊎ ((join_price t ≤ w) × Lower (first_of t) (left_of t.operation) (last_of t) x y z)
at_numbers t s w x y z e a b c l =
    subst (λ (i : ℕ). (join_price t < i) ⊎ ((join_price t ≤ i) × Lower (first_of t) (left_of t.operation) (last_of t) x y z)) e
    (subst (λ (i : ℕ). (join_price t < join_price s) ⊎ ((join_price t ≤ join_price s) × Lower (first_of t) (left_of t.operation) (last_of t) i y z)) a
    (subst (λ (i : ℕ). (join_price t < join_price s) ⊎ ((join_price t ≤ join_price s) × Lower (first_of t) (left_of t.operation) (last_of t) (first_of s) i z)) b
    (subst (λ (i : ℕ). (join_price t < join_price s) ⊎ ((join_price t ≤ join_price s) × Lower (first_of t) (left_of t.operation) (last_of t) (first_of s) (left_of s.operation) i)) c l)))

all_settle : (settings : Settings) (w x y z : ℕ) → AllSettle settings w x y z
all_settle settings =
    by_four (AllSettle settings)
    (λ w x y z lower s kept born e a b c. settled_by settings s kept born
    (λ t kept_t born_t l. lower (join_price t) (first_of t) (left_of t.operation) (last_of t) (at_numbers t s w x y z e a b c l) t kept_t born_t refl refl refl refl))

pub every_run_settles : ComesToRestLaw
every_run_settles settings rack entries s run =
    all_settle settings (join_price s) (first_of s) (left_of s.operation) (last_of s) s (reaches_kept settings rack entries s run) (reaches_born settings rack entries s run) refl refl refl refl
