-- How many steps follow before a front rests that is left alone: one number for each front, which falls by one with each step of a run.
use Rattle.std.proofs.Common.{ℕ, zero, suc, ◌+◌, ◌*◌, ◌<◌, ◌≤◌, ◌≡◌, ◌⊎◌, inl, inr, Bool, true, false, List, [], ◌∷◌, length, Option, Some, None, refl, sym, ap, ◌∙◌, subst, reverse, arith, length-append}
use Rattle.std.specs.Prelude.{if◌then◌else◌}
use mathlib.Core.WellFounded.{Acc, WellFounded, fix, fix-eq}
use native.Mathlib.Decide.{dec_lt, dec_le}
use Rattle.pnp_model.specs.Keyed.{those, without_first}
use Rattle.pnp_model.specs.Records.{Driver, State, Settings, Doing, Duty, Beginning}
use Rattle.pnp_model.specs.States.{drop_task}
use Rattle.pnp_model.specs.Tests.{is_surprise_task}
use Rattle.pnp_model.specs.Trees.{leaving}
use Rattle.pnp_model.specs.Tasks as tk
use Rattle.pnp_model.specs.Machine as ma
use Rattle.pnp_model.specs.Runs.{opening}
use Rattle.pnp_model.proofs.Due.{due_is_first}
use Rattle.pnp_labels.specs.declared.label.Label.{Label}
use Rattle.pnp_labels.specs.declared.label.NoticeKind.{NoticeKind}
use Rattle.pnp_labels.specs.declared.label.OpKind.{OpKind}
use Rattle.pnp_laws.proofs.Decides.{dec_both, dec_or}
use Rattle.pnp_laws.proofs.Falling.{dec_lowest}
use Rattle.pnp_laws.proofs.IdleSteps.{TaskStep}
use Rattle.pnp_laws.proofs.JoinCounts.{flows_price, join_price}
use Rattle.pnp_laws.proofs.JoinMachine.{flows_dropped, reaches_born}
use Rattle.pnp_laws.proofs.Joins.{Born}
use Rattle.pnp_laws.proofs.MeasureBegins.{lowers_task}
use Rattle.pnp_laws.proofs.Measures.{left_of}
use Rattle.pnp_laws.proofs.RunsEnd.{Lower, Lowest, by_four, first_of, last_of, lowest_step}
use Rattle.pnp_laws.proofs.RunsStand as st
use Rattle.pnp_laws.proofs.Weights.{lighter_same}
use Rattle.notify_front.specs.Fronts as fr
use Rattle.notify_front.specs.Fronts.{Front, FrontEntry, FrontStep, FrontSteps, Hand, IsFrontQuiet, IsFrontStep, Registration, front_next, on_each, on_set, opening_front}
use Rattle.notify_front.specs.Laws.{CountsFrontSteps, FrontStepsAreCountedLaw, IsOwn}
use Rattle.notify_front.specs.Notices.{FrontRun}
use Rattle.notify_front.proofs.OneWay.{front_step_of, one_front_step, some_front_step}
use Rattle.notify_front.proofs.Runs.{Fits, IsReady, lifted_step}
use Rattle.notify_front.proofs.Told.{Kept, reached_kept}

-- The notices that are left ---------------------------------------------------------------------------

-- of an operation of this kind that is due, before any client was asked: each is asked, and may hear that another refused
abbrev due_left : Front → OpKind → ℕ → ℕ
due_left f OpKind.Disable k = 2 * length (on_set f k) + 2
due_left f OpKind.Eject k = 2 * length (on_set f k) + 2
due_left f _ k = 0

abbrev idle_left : Front → Option Beginning → ℕ
idle_left f None = 0
idle_left f (Some first) = due_left f first.kind first.serial

abbrev hand_left : Front → Hand → ℕ
hand_left f Hand.Nothing = idle_left f (ma.due f.state)
hand_left f (Hand.Asking first agreed left) = 2 * length left + length agreed + 1
hand_left f (Hand.Cancelling first client left) = length left + 1
hand_left f (Hand.Running told) = 0
hand_left f (Hand.Vetoed left) = length left + idle_left f (ma.due f.state)
hand_left f (Hand.Ended left) = length left + idle_left f (ma.due f.state)

abbrev notices_left : Front → ℕ
notices_left f = hand_left f f.hand

vetoed_left : (f : Front) (left : List Registration) → hand_left f (fr.vetoed left) ≡ length left + idle_left f (ma.due f.state)
vetoed_left f [] = omega arith
vetoed_left f (r ∷ left) = refl

over_left : (f : Front) (left : List Registration) → hand_left f (fr.over left) ≡ length left + idle_left f (ma.due f.state)
over_left f [] = omega arith
over_left f (r ∷ left) = refl

-- with a registration less nobody more is asked
those_less : {A : Type 0} (q p : A → Bool) (xs : List A) → length (those q (without_first p xs)) ≤ length (those q xs)
those_less q p [] = omega arith
those_less {A = A} q p (x ∷ xs) = by_test (p x) (those_less q p xs)
  where
    one_more : (b : Bool) → length (those q xs) ≤ length (if b then x ∷ those q xs else those q xs)
    one_more true = omega arith
    one_more false = omega arith

    alike : (ys : List A) (b : Bool) → length (those q ys) ≤ length (those q xs) → length (if b then x ∷ those q ys else those q ys) ≤ length (if b then x ∷ those q xs else those q xs)
    alike ys true less = omega arith
    alike ys false less = less

    by_test : (b : Bool) → length (those q (without_first p xs)) ≤ length (those q xs) → length (those q (if b then xs else x ∷ without_first p xs)) ≤ length (if q x then x ∷ those q xs else those q xs)
    by_test true less = one_more (q x)
    by_test false less = alike (without_first p xs) (q x) less

on_each_less : (ks : List ℕ) (p : Registration → Bool) (xs : List Registration) → length (on_each ks (without_first p xs)) ≤ length (on_each ks xs)
on_each_less [] p xs = omega arith
on_each_less (k ∷ ks) p xs =
    let one = those_less (fr.is_on k) p xs in
    let more = on_each_less ks p xs in
    let a = length-append (those (fr.is_on k) (without_first p xs)) (on_each ks (without_first p xs)) in
    let b = length-append (those (fr.is_on k) xs) (on_each ks xs) in
    omega arith

due_less : (f : Front) (r : Registration) (kind : OpKind) (k : ℕ) → due_left (fr.without r f) kind k ≤ due_left f kind k
due_less f r OpKind.Disable k = let less = on_each_less (leaving f.state.core k) (fr.is_of r.client r.device) f.registrations in omega arith
due_less f r OpKind.Eject k = let less = on_each_less (leaving f.state.core k) (fr.is_of r.client r.device) f.registrations in omega arith
due_less f r OpKind.Surprise k = omega arith
due_less f r OpKind.Rebalance k = omega arith
due_less f r OpKind.Finish k = omega arith
due_less f r OpKind.Change k = omega arith

idle_less : (f : Front) (r : Registration) (o : Option Beginning) → idle_left (fr.without r f) o ≤ idle_left f o
idle_less f r None = omega arith
idle_less f r (Some first) = due_less f r first.kind first.serial

-- What falls ----------------------------------------------------------------------------------------------

-- the machine's four numbers are at most these
abbrev pub Under : ℕ → ℕ → ℕ → ℕ → State → Type 0
Under w x y z s = (join_price s ≤ w) × ((first_of s ≤ x) × ((left_of s.operation ≤ y) × (last_of s ≤ z)))

abbrev pub AtMost : State → State → Type 0
AtMost t s = Under (join_price s) (first_of s) (left_of s.operation) (last_of s) t

-- the machine goes on, or nothing of it grows, and fewer notices are left
abbrev pub FrontLower : Front → Front → Type 0
FrontLower g f = Lowest g.state f.state ⊎ (AtMost g.state f.state × (notices_left g < notices_left f))

dec_at_most : (t s : State) → Dec (AtMost t s)
dec_at_most t s =
    dec_both (dec_le (join_price t) (join_price s)) (dec_both (dec_le (first_of t) (first_of s)) (dec_both (dec_le (left_of t.operation) (left_of s.operation)) (dec_le (last_of t) (last_of s))))

dec_front_lower : (g f : Front) → Dec (FrontLower g f)
dec_front_lower g f = dec_or (dec_lowest g.state f.state) (dec_both (dec_at_most g.state f.state) (dec_lt (notices_left g) (notices_left f)))

le_self : (n : ℕ) → n ≤ n
le_self n = omega arith

le_both : (a b c : ℕ) → a ≤ b → b ≤ c → a ≤ c
le_both a b c h g = omega arith

at_most_self : (s : State) → AtMost s s
at_most_self s = (le_self (join_price s), (le_self (first_of s), (le_self (left_of s.operation), le_self (last_of s))))

under_both : (w x y z : ℕ) (t s : State) → AtMost t s → Under w x y z s → Under w x y z t
under_both w x y z t s (a, (b, (c, d))) (e, (f, (g, h))) = (
  le_both (join_price t) (join_price s) w a e,
  (le_both (first_of t) (first_of s) x b f, (le_both (left_of t.operation) (left_of s.operation) y c g, le_both (last_of t) (last_of s) z d h)),
)

-- what is lower than numbers that are at most these is lower than these
lower_under : (p a b c q i j k w x y z : ℕ) → (p < q) ⊎ ((p ≤ q) × Lower a b c i j k) → (q ≤ w) × ((i ≤ x) × ((j ≤ y) × (k ≤ z))) → (p < w) ⊎ ((p ≤ w) × Lower a b c x y z)
lower_under p a b c q i j k w x y z (inl l) (e, (f, (g, h))) = inl (omega arith)
lower_under p a b c q i j k w x y z (inr (l, inl m)) (e, (f, (g, h))) = inr (omega arith, inl (omega arith))
lower_under p a b c q i j k w x y z (inr (l, inr (m, inl n))) (e, (f, (g, h))) = inr (omega arith, inr (omega arith, inl (omega arith)))
lower_under p a b c q i j k w x y z (inr (l, inr (m, inr (n, o)))) (e, (f, (g, h))) = inr (omega arith, inr (omega arith, inr (omega arith, omega arith)))

-- of the fronts with at most these numbers
abbrev AllEnd : ℕ → ℕ → ℕ → ℕ → Type 0
AllEnd w x y z = (f : Front) → Under w x y z f.state → Acc FrontLower f

fewer_still : (a b n : ℕ) → a < b → b < suc n → a < n
fewer_still a b n h g = omega arith

end_by : (w x y z : ℕ) → ((v a b c : ℕ) → (v < w) ⊎ ((v ≤ w) × Lower a b c x y z) → AllEnd v a b c) → (n : ℕ) (f : Front) → notices_left f < n → Under w x y z f.state → Acc FrontLower f
end_by w x y z lower zero f few under = absurd (omega arith)
end_by w x y z lower (suc n) f few under =
    Acc.intro f
    (λ g below. elim below [
      | inl less ↦
          lower (join_price g.state) (first_of g.state) (left_of g.state.operation) (last_of g.state)
          (lower_under (join_price g.state) (first_of g.state) (left_of g.state.operation) (last_of g.state) (join_price f.state) (first_of f.state) (left_of f.state.operation) (last_of f.state) w x y z less under)
          g (at_most_self g.state)
      | inr (most, fewer) ↦ end_by w x y z lower n g (fewer_still (notices_left g) (notices_left f) n fewer few) (under_both w x y z g.state f.state most under)
    ])

all_end : (w x y z : ℕ) → AllEnd w x y z
all_end = by_four AllEnd (λ w x y z lower f under. end_by w x y z lower (suc (notices_left f)) f (omega arith) under)

-- from no front on can they fall for ever
pub front_falls_end : WellFounded FrontLower
front_falls_end = record { apply = λ f. all_end (join_price f.state) (first_of f.state) (left_of f.state.operation) (last_of f.state) f (at_most_self f.state) }

-- Each step lowers it ----------------------------------------------------------------------------------------

not_surprise : (kind : OpKind) → ma.is_in_order kind ≡ true → is_surprise_task (Duty.Begins kind) ≡ false
not_surprise OpKind.Disable h = refl
not_surprise OpKind.Eject h = refl
not_surprise OpKind.Surprise h = absurd (cc)
not_surprise OpKind.Rebalance h = absurd (cc)
not_surprise OpKind.Finish h = absurd (cc)
not_surprise OpKind.Change h = absurd (cc)

-- where what is due is declined, the machine's numbers fall
pub lowest_declined : (s : State) (first : Beginning) → st.Kept s → Born s → IsReady s first → Lowest (drop_task s) s
lowest_declined s first kept born ready =
    let is = due_is_first s first ready.is_due in
    let price = flows_price s (drop_task s) kept.good kept.good kept.stands.tree born (flows_dropped s) born.room in
    let duty = Duty.Begins first.kind in
    let lowers =
    lowers_task s (tk.skip duty first.serial s) is.idle kept.good.serials (λ none. lighter_same s.core.nodes s.core.nodes refl)
    (TaskStep.skips duty first.serial first.serial is.task (not_surprise first.kind ready.in_order)) in
    inr (price, (lowers.lowers tt).lower)

-- a step of the front's own, and lower
pub record Falls (f : Front) (step : FrontStep) : Type 0 where
  pub own : IsOwn step.entry
  pub lower : FrontLower step.front f

falls_told : (f : Front) (step told : FrontStep) → Falls f told → step ≡ told → Falls f step
falls_told f step told falls is = subst (λ (x : FrontStep). Falls f x) (sym is) falls

-- a notice, after which fewer are left
fewer : (f g : Front) (label : Label) → g.state ≡ f.state → notices_left g < notices_left f → Falls f (record { entry = FrontEntry.Tells label; front = g })
fewer f g label same less = record { own = tt; lower = inr (subst (λ (x : State). AtMost x f.state) (sym same) (at_most_self f.state), less) }

module _ (settings : Settings) (f : Front) (kept : st.Kept f.state) (born : Born f.state) where
  falls_machine : (hand : Hand) (step : FrontStep) → IsFrontStep settings (fr.machine_next settings f hand) step → Falls f step
  falls_machine hand step h =
      let m = lifted_step settings f hand (ma.next settings f.state) step h in
      falls_told f step (fr.lifted f hand m.0) (record { own = tt; lower = inl (lowest_step settings f.state m.0.state m.0.label kept born m.1) }) m.2

  falls_asked : (first : Beginning) (agreed : List Registration) (r : Registration) (left : List Registration) (b : Bool) → 2 * length (r ∷ left) + length agreed + 1 ≤ notices_left f → Falls f (fr.ask_one f first agreed r left b)
  falls_asked first agreed r left true less = fewer f (fr.with_hand (Hand.Asking first (r ∷ agreed) left) f) _ refl (omega arith)
  falls_asked first agreed r left false less = fewer f (fr.with_hand (Hand.Cancelling first r.client agreed) f) _ refl (omega arith)

  falls_ask : (first : Beginning) (agreed left : List Registration) → 2 * length left + length agreed + 1 ≤ notices_left f → (step : FrontStep) → IsFrontStep settings (fr.ask_next settings f first agreed left) step → Falls f step
  falls_ask first agreed [] less step h = falls_machine (fr.running (reverse agreed)) step h
  falls_ask first agreed (r ∷ left) less step h = falls_told f step (fr.ask_one f first agreed r left r.agrees) (falls_asked first agreed r left r.agrees less) h

  falls_begin : (first : Beginning) (kind : OpKind) → due_left f kind first.serial ≤ notices_left f → (step : FrontStep) → IsFrontStep settings (fr.begin_next settings f first kind) step → Falls f step
  falls_begin first OpKind.Disable less step h = falls_ask first [] (on_set f first.serial) (omega arith) step h
  falls_begin first OpKind.Eject less step h = falls_ask first [] (on_set f first.serial) (omega arith) step h
  falls_begin first OpKind.Surprise less step h = falls_machine (fr.running (on_set f first.serial)) step h
  falls_begin first OpKind.Rebalance less step h = falls_machine Hand.Nothing step h
  falls_begin first OpKind.Finish less step h = falls_machine Hand.Nothing step h
  falls_begin first OpKind.Change less step h = falls_machine Hand.Nothing step h

  falls_idle : (o : Option Beginning) → idle_left f o ≤ notices_left f → (step : FrontStep) → IsFrontStep settings (fr.idle_next settings f o) step → Falls f step
  falls_idle None less step h = falls_machine Hand.Nothing step h
  falls_idle (Some first) less step h = falls_begin first first.kind less step h

  falls_hand : (hand : Hand) → Fits f.state hand → hand_left f hand ≤ notices_left f → (step : FrontStep) → IsFrontStep settings (fr.hand_next settings f hand) step → Falls f step
  falls_hand Hand.Nothing fits less step h = falls_idle (ma.due f.state) less step h
  falls_hand (Hand.Asking first agreed left) fits less step h = falls_ask first agreed left less step h
  falls_hand (Hand.Cancelling first client []) fits less step h =
      falls_told f step (fr.decline f first client) (record { own = tt; lower = inl (lowest_declined f.state first kept born fits) }) h
  falls_hand (Hand.Cancelling first client (r ∷ left)) fits less step h =
      falls_told f step (fr.cancel_next f first client (r ∷ left)) (fewer f (fr.with_hand (Hand.Cancelling first client left) f) _ refl (omega arith)) h
  falls_hand (Hand.Running told) fits less step h = falls_machine (Hand.Running told) step h
  falls_hand (Hand.Vetoed []) fits less step h = falls_machine Hand.Nothing step h
  falls_hand (Hand.Vetoed (r ∷ left)) fits less step h =
      let g = fr.with_hand (fr.vetoed left) f in
      let now = vetoed_left g left in
      falls_told f step (fr.tells NoticeKind.RemoveCancelled r None g) (fewer f g _ refl (omega arith)) h
  falls_hand (Hand.Ended []) fits less step h = falls_machine Hand.Nothing step h
  falls_hand (Hand.Ended (r ∷ left)) fits less step h =
      let g = fr.with_hand (fr.over left) (fr.without r f) in
      let now = over_left g left in
      let idle = idle_less f r (ma.due f.state) in
      falls_told f step (fr.tells NoticeKind.RemoveComplete r None g) (fewer f g _ refl (omega arith)) h

pub step_falls : (settings : Settings) (rack : List Driver) (entries : List FrontEntry) (f : Front) → Kept settings rack entries f → (step : FrontStep) → IsFrontStep settings (front_next settings f) step → Falls f step
step_falls settings rack entries f kept step h =
    falls_hand settings f (st.reaches_kept settings rack _ f.state kept.reached) (reaches_born settings rack _ f.state kept.reached) f.hand kept.fits (le_self (notices_left f)) step h

-- The number --------------------------------------------------------------------------------------------------

front_after : Settings → Option (Doing FrontStep) → Option Front
front_after settings None = None
front_after settings (Some doing) = Some (front_step_of settings doing).front

-- one more than after the next step, where it falls with it, as it does in runs
abbrev one_more : (f : Front) → ((g : Front) → FrontLower g f → ℕ) → Option Front → ℕ
one_more f left None = 0
one_more f left (Some g) = elim (dec_front_lower g f) as (λ _. ℕ) [ yes lower ↦ suc (left g lower) | no other ↦ 0 ]

pub front_steps_left : Settings → Front → ℕ
front_steps_left settings = fix {r = FrontLower} {C = λ (_ : Front). ℕ} front_falls_end (λ f left. one_more f left (front_after settings (front_next settings f)))

left_is : (settings : Settings) (f : Front) → front_steps_left settings f ≡ one_more f (λ g lower. front_steps_left settings g) (front_after settings (front_next settings f))
unfolding front_steps_left
left_is settings f = fix-eq {r = FrontLower} {C = λ (_ : Front). ℕ} front_falls_end (λ f left. one_more f left (front_after settings (front_next settings f))) f

pub none_left : (settings : Settings) (f : Front) → IsFrontQuiet settings f → front_steps_left settings f ≡ 0
unfolding front_after
none_left settings f quiet = left_is settings f ∙ ap (λ (o : Option (Doing FrontStep)). one_more f (λ g lower. front_steps_left settings g) (front_after settings o)) quiet

-- what is computed is the step
after_is : (settings : Settings) (f : Front) (step : FrontStep) → IsFrontStep settings (front_next settings f) step → front_after settings (front_next settings f) ≡ Some step.front
unfolding front_after
after_is settings f step steps = by_next (front_next settings f) refl
  where
    by_next : (o : Option (Doing FrontStep)) → front_next settings f ≡ o → front_after settings o ≡ Some step.front
    by_next None e = absurd (subst (λ (o : Option (Doing FrontStep)). IsFrontStep settings o step) e steps)
    by_next (Some doing) e = ap (λ (x : FrontStep). Some x.front) (one_front_step settings f (front_step_of settings doing) step (some_front_step settings f doing e) steps)

pub one_less : (settings : Settings) (rack : List Driver) (entries : List FrontEntry) (f : Front) (step : FrontStep) → Kept settings rack entries f → IsFrontStep settings (front_next settings f) step →
    front_steps_left settings f ≡ suc (front_steps_left settings step.front)
one_less settings rack entries f step kept steps =
    left_is settings f ∙ ap (one_more f (λ g lower. front_steps_left settings g)) (after_is settings f step steps) ∙ by_test (dec_front_lower step.front f)
  where
    by_test : (d : Dec (FrontLower step.front f)) → (elim d as (λ _. ℕ) [ yes lower ↦ suc (front_steps_left settings step.front) | no other ↦ 0 ]) ≡ suc (front_steps_left settings step.front)
    by_test (yes lower) = refl
    by_test (no other) = absurd (other (step_falls settings rack entries f kept step steps).lower)

-- so it bounds a loop of steps
pub front_left_falls : (settings : Settings) (rack : List Driver) (entries : List FrontEntry) (f g : Front) (entry : FrontEntry) → FrontRun settings (opening_front (opening rack)) entries f → FrontSteps settings f entry g →
    front_steps_left settings g < front_steps_left settings f
front_left_falls settings rack entries f g entry run steps =
    let e = one_less settings rack entries f (record { entry = entry; front = g }) (reached_kept settings rack entries f run) steps in omega arith

pub steps_are_counted : FrontStepsAreCountedLaw
steps_are_counted settings = (front_steps_left settings, counts)
  where
    counts : CountsFrontSteps settings (front_steps_left settings)
    counts rack entries f run = (
      none_left settings f,
      λ entry g steps. one_less settings rack entries f (record { entry = entry; front = g }) (reached_kept settings rack entries f run) steps,
    )
